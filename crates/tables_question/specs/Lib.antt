-- What the contracts cite.
pub mod Kept
