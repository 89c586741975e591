-- What the command writes of a whole input; what the first lines of a comparison tell of the others.
pub mod Whole
pub mod Compared
