-- What holds where both tables are accepted.
pub mod Both
