pub mod Refusals
pub mod Answers
pub mod History
pub mod Needed
pub mod Subticks
pub mod Rows
