-- What a caller has of an accepted clock, and of a refused one.
pub mod Accepted
