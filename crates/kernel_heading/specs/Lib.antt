-- What is told of the names with one value.
pub mod Names
