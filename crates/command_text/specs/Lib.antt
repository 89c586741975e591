-- The most bytes of a field.
pub mod Longest
