-- Definitions that know nothing of clocks: scans over the numbers below a bound, rounded quotients, signed numbers.
pub mod Scans
pub mod Rounding
pub mod Signed
