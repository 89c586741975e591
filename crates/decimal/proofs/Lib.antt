-- Laws of text written from right to left and from left to right, of a number's digits and of how many it has.
pub mod RightToLeft
pub mod LeftToRight
pub mod Digits
