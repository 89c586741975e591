-- The most bytes of a refusal.
pub mod Longest
