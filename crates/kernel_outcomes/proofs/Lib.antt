pub mod Refusals
pub mod Rows
pub mod Lent
pub mod Closing
pub mod Passing
pub mod Whole
