-- Laws about the definitions alone.
pub mod Accepted
pub mod Rows
pub mod Answers
