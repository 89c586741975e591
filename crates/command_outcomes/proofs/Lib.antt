-- A line that is too long, and the whole input; two tables asked of one line, and what is then printed.
pub mod Whole
pub mod Agreement
pub mod Refused
pub mod Compared
