-- Laws of the double form.
pub mod Tests
