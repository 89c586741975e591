-- Laws of a stamp with its time.
pub mod Composed
