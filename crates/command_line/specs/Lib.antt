-- What a line is answered under.
pub mod Ready
