-- Rows put into a buffer, and the line of a partition.
pub mod Rows
