-- What the contracts cite.
pub mod Sizes
