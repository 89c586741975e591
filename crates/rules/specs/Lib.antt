-- The meaning of document 01. A reader starts at Limits and goes down: the tables, reading, printing, time, the message, the double
-- form. Then come cases by computation.
pub mod Limits
pub mod Listed
pub mod Answer
pub mod Shown
pub mod Layout
pub mod Partitions
pub mod Segments
pub mod Accepted
pub mod Facts
pub mod Text
pub mod Stamp
pub mod Print
pub mod Time
pub mod Message
pub mod StampTime
pub mod Doubles
pub mod Computing
pub mod Examples
pub mod Edges
pub mod CallEdges
pub mod DoubleExamples
