-- Lines by computation.
pub mod Examples
