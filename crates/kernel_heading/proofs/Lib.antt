pub mod Names
pub mod Judging
