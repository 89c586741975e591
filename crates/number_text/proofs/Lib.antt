-- The bytes that the code puts.
pub mod Bytes
