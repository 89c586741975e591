-- What the first pass finds.
pub mod Slots
