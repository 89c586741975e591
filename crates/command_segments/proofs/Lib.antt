-- The lines of segments, as the code puts them.
pub mod SegmentLines
