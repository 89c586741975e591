-- Laws of what is kept: a scan of rows, layouts, segments.
pub mod Scanned
pub mod Layouts
pub mod Segments
