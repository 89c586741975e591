-- Two parts written one before the other, and the parts of a packet.
pub mod Parts
