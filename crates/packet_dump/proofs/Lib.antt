-- Lists knows nothing of packets. Cutting has the packets of a dump, Steps one step, Walks the caller's loop, Dump the promises.
pub mod Lists
pub mod Cutting
pub mod Steps
pub mod Walks
pub mod Dump
pub mod Refusals
