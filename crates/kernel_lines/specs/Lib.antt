-- How far the bytes of a kind reach, and where the lines of a kernel text stand in it.
pub mod Kinds
pub mod Places
