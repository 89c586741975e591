-- The meaning of satellite packets (document 02, request 7): numbers in octets, the two headers, reading, writing, walking a dump; then examples.
pub mod Octets
pub mod Header
pub mod Read
pub mod Write
pub mod Walk
pub mod Examples
