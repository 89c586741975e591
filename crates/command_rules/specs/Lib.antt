-- What the operator's command prints: Fields, Input and Lines for each line of input; Verdict of two tables; Describe of a table; and their examples.
pub mod Sentences
pub mod Fields
pub mod Input
pub mod Lines
pub mod Verdict
pub mod Describe
pub mod Computing
pub mod Examples
pub mod CompareExamples
pub mod DescribeExamples
