-- The theorems of specs/, and the laws that lead to them.
--     Rows        partitions_place, segments_place
--     Fields      fields_by_bytes
--     Calls       row_places, byte_places, text_places, digit_places, text_bounds, places_passed_on
pub mod Below
pub mod Placed
pub mod ByteKinds
pub mod Rows
pub mod Bytes
pub mod Gaps
pub mod Fields
pub mod FieldPlaces
pub mod Texts
pub mod Calls
