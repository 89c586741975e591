-- Laws of one word.
pub mod Spelling
pub mod Numbers
pub mod Options
