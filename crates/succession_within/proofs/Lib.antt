-- What the calls between the parts ask for.
pub mod Asked
