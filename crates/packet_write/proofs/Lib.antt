-- Each way out of writing a packet.
pub mod Calls
