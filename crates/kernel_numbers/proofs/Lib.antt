-- The laws of numbers: what each step of the code keeps, that the code reads what the definitions say, and what those say without caps.
pub mod Quotients
pub mod Lengths
pub mod Exact
pub mod Steps
pub mod FewBytes
pub mod Powers
pub mod Keeps
pub mod Whole
