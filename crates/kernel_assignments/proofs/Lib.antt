-- Plain serves the tests of a line's bytes, Values what follows the operator, Stages the stage after a line.
pub mod Plain
pub mod Values
pub mod Stages
