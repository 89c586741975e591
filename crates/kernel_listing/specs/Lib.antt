-- What is told of the five lists, and what is kept of them.
pub mod Lists
pub mod Listed
