-- Walk serves the loop over the lines.
pub mod Walk
