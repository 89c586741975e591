-- A line by what is asked of it.
pub mod Lines
