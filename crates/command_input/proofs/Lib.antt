-- Runs serves every reader of the command's input; LineEnd and Hex serve the proofs of this crate.
pub mod Runs
pub mod LineEnd
pub mod Hex
