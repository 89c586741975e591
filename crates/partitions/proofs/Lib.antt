-- Laws of the partition check.
pub mod Rows
pub mod Checked
