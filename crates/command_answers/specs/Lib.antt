-- A line's answer, put into a buffer.
pub mod Put
