-- Laws of the search for the partition of an encoded count, and what a caller has of it.
pub mod Searching
pub mod Accepted
