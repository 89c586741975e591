-- Laws of numbers in octets, and of octets written from the right.
pub mod Numbers
pub mod Writing
