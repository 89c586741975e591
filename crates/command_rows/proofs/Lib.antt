-- Rows one by one; the lines of partitions.
pub mod RowByRow
pub mod PartitionLines
