-- Texts put behind one another, and the lines of the two ends.
pub mod Parts
pub mod Heads
pub mod Tails
