-- The laws of the walk over the values of an assignment.
pub mod Parts
pub mod Fronts
pub mod Walking
