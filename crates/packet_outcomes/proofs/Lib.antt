-- The theorems of specs/, and the laws that lead to them.
pub mod Accepted
pub mod Octets
pub mod Header
pub mod Written
pub mod RoundTrip
pub mod Longest
pub mod Refusals
pub mod Rows
pub mod Rungs
pub mod Reading
