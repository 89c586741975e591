-- What the lines between accepted segments need.
pub mod Reached
