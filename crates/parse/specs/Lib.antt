-- A stamp as the code parses it.
pub mod ParsedStamp
