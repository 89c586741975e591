-- What is proved of satellite packets, over the definitions of packet_rules.
pub mod RoundTrip
pub mod Needed
pub mod Refusals
pub mod Reading
pub mod Writing
pub mod Rows
