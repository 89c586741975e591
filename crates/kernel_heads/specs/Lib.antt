-- Parts of a line, for the contracts.
pub mod Parts
