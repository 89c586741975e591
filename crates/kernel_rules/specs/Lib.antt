-- The meaning of kernel text (document 02, request 1): lines, the values on them, assignments and names, then the tables that a text gives.
pub mod Lines
pub mod Numbers
pub mod Tokens
pub mod Assignments
pub mod Names
pub mod Tables
pub mod Kernel
pub mod Computing
pub mod Examples
pub mod Values
pub mod Forms
pub mod Edits
pub mod Readings
pub mod Texts
