-- Each way out of the two calls.
pub mod Calls
