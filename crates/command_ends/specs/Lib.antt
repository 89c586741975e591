-- The lines before and after the rows of a description.
pub mod Ends
