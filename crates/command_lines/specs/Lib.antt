-- The output as the input comes in.
pub mod Pieces
