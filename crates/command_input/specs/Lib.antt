-- The bytes of a kind at the front of a text, and what reading a message in hex answers.
pub mod Runs
pub mod Given
