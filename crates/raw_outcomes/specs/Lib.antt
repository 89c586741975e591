-- What is proved of raw counters and of seconds with microseconds, over the definitions of raw_rules.
pub mod Refusals
pub mod History
pub mod Needed
pub mod Subticks
pub mod Rows
