-- What the parts of reading a packet say of their results.
pub mod Form
