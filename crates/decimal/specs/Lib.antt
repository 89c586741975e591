-- What the writers require and ensure.
pub mod Writing
