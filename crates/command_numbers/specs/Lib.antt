-- What reading a count and a time answers, and the places that the reading goes by.
pub mod Given
pub mod Places
