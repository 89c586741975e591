pub mod StampWithin
pub mod Ladder
pub mod Refusals
