-- A law of the carry.
pub mod Seconds
