-- What is made of a packet's answer.
pub mod Mixed
