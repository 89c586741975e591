-- Pieces serves the loop over a chunk. Whole has the theorems on whole inputs.
pub mod Pieces
