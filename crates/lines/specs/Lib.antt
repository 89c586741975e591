-- What a line of a program's input is, and how the lines are found as the input comes in.
pub mod Lines
pub mod Steps
pub mod Examples
