-- What is answered of gathered tables.
pub mod Fitting
