-- The laws of the trailer: one for each way out.
pub mod Trailer
