-- Laws of the length of a packet, by its length field.
pub mod Lengths
