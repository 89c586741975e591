-- The lines of a comparison put together of their fields.
pub mod Compared
