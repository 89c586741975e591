pub mod Found
pub mod Growing
