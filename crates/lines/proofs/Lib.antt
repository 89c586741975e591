-- Keeping and Step serve the proofs of the code. Whole has the theorems on whole inputs, Turn the laws of a loop over a chunk.
pub mod Keeping
pub mod Step
pub mod Whole
pub mod Turn
