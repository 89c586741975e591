-- The ranges of what a packet is written from, test by test.
pub mod Writable
