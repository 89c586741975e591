-- The meaning of two tables, an older and a newer: whether the one succeeds the other, and below which count they agree; then examples.
pub mod OfTwo
pub mod Kept
pub mod Rows
pub mod Succession
pub mod Horizon
pub mod Computing
pub mod Examples
pub mod Shown
