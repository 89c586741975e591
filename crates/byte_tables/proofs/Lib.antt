-- Laws of the layout that bytes make, and of a row.
pub mod Given
