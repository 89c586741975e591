-- Laws of prints that fit or do not, and of the number in front.
pub mod Fitting
pub mod Numbered
