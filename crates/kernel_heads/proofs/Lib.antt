-- NameBytes has the tests of a name, Heads the laws of the name and the operator.
pub mod NameBytes
pub mod Heads
