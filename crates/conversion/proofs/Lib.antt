pub mod Rows
pub mod Conversions
