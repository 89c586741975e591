-- Spans and Trimming serve loops over a line's bytes. Sameness says what `same` tells. Places has the laws of the lines from a place of the text on.
pub mod Spans
pub mod Trimming
pub mod Sameness
pub mod Places
