-- The facts of partitions that their encoded counts go by.
pub mod Listed
