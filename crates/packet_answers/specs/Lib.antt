-- What the contracts cite.
pub mod Sum
