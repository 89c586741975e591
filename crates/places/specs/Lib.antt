-- What is promised of the places of refusals (request 3).
pub mod Rows
pub mod Bytes
pub mod Fields
pub mod Calls
pub mod Examples
