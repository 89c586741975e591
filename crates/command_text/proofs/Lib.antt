-- The bytes of times and rates, as the code puts them.
pub mod Texts
