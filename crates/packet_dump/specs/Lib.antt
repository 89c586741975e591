-- What is proved of walking a dump, over the definitions of packet_rules.
pub mod Packets
pub mod Walks
pub mod Dump
pub mod Refusals
pub mod Examples
