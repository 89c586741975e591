pub mod Limits
pub mod Measure
