-- The line of a segment in its parts.
pub mod SegmentRow
