-- Numbers and times as text.
pub mod Numbers
