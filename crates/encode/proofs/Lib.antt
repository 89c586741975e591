-- The laws of running sums of lengths, and the ways out of a search.
pub mod Sums
