-- NameParts serves the comparison with the ten names, Digits the digits at their ends.
pub mod NameParts
pub mod Digits
