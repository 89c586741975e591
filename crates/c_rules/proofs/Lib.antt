-- Laws of numbers in bytes, and of the slots of a layout.
pub mod Bytes
pub mod Slots
