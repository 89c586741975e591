pub mod Fit
pub mod Raised
pub mod Turns
pub mod Word
pub mod Zeros
