-- Laws of reading eight bytes as a number, and of a time as eight bytes.
pub mod Eight
pub mod Words
