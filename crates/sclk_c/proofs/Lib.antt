-- That every result is an i64.
pub mod Fitting
