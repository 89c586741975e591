pub mod Quotient
pub mod Steps
