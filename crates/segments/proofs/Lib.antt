-- Laws of the segment check and of the step-back test.
pub mod Lines
pub mod Ends
pub mod Checked
pub mod Steps
