-- Where the values of an assignment stand in the text.
pub mod Places
