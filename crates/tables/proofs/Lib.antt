-- Laws of accepting tables, and what a caller has of it.
pub mod Guards
pub mod Accepted
pub mod Accepting
