pub mod Storing
pub mod Numbers
pub mod Filling
