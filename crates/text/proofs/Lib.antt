-- The layout's slots, encoding what was parsed, and each way out of the two calls.
pub mod Slots
pub mod Encode
pub mod Calls
