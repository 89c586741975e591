-- Cases of tokens.
pub mod Examples
