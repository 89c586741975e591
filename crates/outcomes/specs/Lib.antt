-- Which refusals each call can give, and what texts, stamps and messages read as.
pub mod Refusals
pub mod Given
pub mod Readings
