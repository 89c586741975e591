-- The C calls of request 5: numbers in bytes, the tables made of them, and what comes back; then examples.
pub mod Numbers
pub mod Tables
pub mod Calls
pub mod Examples
