-- Gaps and steps back, as the code tells and counts them.
pub mod Jumps
