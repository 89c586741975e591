-- What is proved of the C calls, over the definitions of c_rules.
pub mod Results
pub mod SameNumbers
pub mod Malformed
