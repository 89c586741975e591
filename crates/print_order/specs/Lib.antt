-- What is promised of prints that are sorted as text.
pub mod Order
pub mod Examples
