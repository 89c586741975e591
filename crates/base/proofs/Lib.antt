-- The laws of tests, of scans and of lists that the other crates cite.
pub mod Tests
pub mod Scans
pub mod Halving
pub mod Lists
pub mod Rounding
pub mod Signed
