-- What the code carries from byte to byte, and cases.
pub mod Pass
pub mod Examples
