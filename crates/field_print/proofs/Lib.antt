-- Laws of one field, of the fields of a count, and of the loops over them.
pub mod OneField
pub mod Widths
pub mod Split
pub mod LastToFirst
