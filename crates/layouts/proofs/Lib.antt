-- Laws of the layout check.
pub mod Chains
pub mod Walks
pub mod Slots
pub mod Units
pub mod Measuring
