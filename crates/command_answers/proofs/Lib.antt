-- The lines put together of their fields.
pub mod Answers
