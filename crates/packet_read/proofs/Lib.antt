-- Laws of a packet's form, of its ticks, and of each way out of reading it.
pub mod Forms
pub mod Ticks
pub mod Calls
