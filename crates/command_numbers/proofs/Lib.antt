-- Near has the laws for callers: a capped number is answered as the number itself. The others serve the proofs of this crate.
pub mod Spelled
pub mod Signs
pub mod Points
pub mod Counts
pub mod Times
pub mod Near
