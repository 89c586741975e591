-- What is proved of reading a kernel, over the definitions of kernel_rules.
pub mod Samples
pub mod Refused
pub mod Refusals
pub mod Rows
pub mod Lent
pub mod Passing
