-- From what accepting each table says to the two calls.
pub mod Calls
