-- What the ranges say of the time's octets.
pub mod Octets
