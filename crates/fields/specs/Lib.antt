-- The pass over clock text, number by number as the code keeps it.
pub mod Pass
