-- ValueEnds serves the code that finds a value's end and reads strings; Tokens has the laws of the tokens of a line, Items what they do to a list.
pub mod ValueEnds
pub mod Tokens
pub mod Items
