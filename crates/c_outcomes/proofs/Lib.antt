-- The theorems of specs/, and that every result is an i64.
pub mod Answers
pub mod Results
pub mod SameNumbers
pub mod Malformed
