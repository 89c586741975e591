-- The laws of the pass: what each step of the code keeps, and that the pass reads what the definitions say.
pub mod Caps
pub mod Steps
pub mod Over
pub mod Ladder
pub mod Stops
pub mod Front
