-- What is read of the values of an assignment, and stored.
pub mod Storing
pub mod Reads
pub mod Examples
