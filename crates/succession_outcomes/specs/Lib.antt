-- What is promised of two tables: Succession, of whether the newer succeeds the older; Horizon, of the count below which they agree; Refusals, of
-- tables that are not accepted.
pub mod Refusals
pub mod Succession
pub mod Horizon
