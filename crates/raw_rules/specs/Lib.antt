-- The meaning of raw counters (document 02, request 4): the counter and its two calls, seconds with microseconds, lists of calls; then examples.
pub mod Counter
pub mod Seconds
pub mod Calls
pub mod Examples
