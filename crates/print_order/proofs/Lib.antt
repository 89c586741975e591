-- The theorems of specs/, and the laws that lead to them.
pub mod Bytes
pub mod Lengths
pub mod Fields
pub mod Counts
pub mod Stamps
pub mod Buffers
