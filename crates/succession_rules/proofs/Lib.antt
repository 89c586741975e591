-- What the row that a scan found says, and what a row that is kept has.
pub mod Found
pub mod Rows
