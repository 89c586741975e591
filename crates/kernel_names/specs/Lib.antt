-- The room that a clock's digits need.
pub mod Digits
