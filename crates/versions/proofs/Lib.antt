-- The proof of demand 3, a file for each topic:
--     Agreement, Equal, Lists, Signed             laws that know nothing of tables
--     Layouts, Partitions, Segments               what one layout, kept partitions and kept segments give, row by row
--     CountToTime, TimeToCount, Reading, Printing, Numbers     the four calls after their checks
--     Seam, Kept, Demand3                         from the hypotheses to the rows, and the theorem
--     Places                                      which refusals are alike, and which have no place
--     Meets, WrittenOut, Needed, Witness           tables that are written out: nothing asked is idle, nor is the theorem empty
pub mod Agreement
pub mod Equal
pub mod Lists
pub mod Signed
pub mod Layouts
pub mod Partitions
pub mod Segments
pub mod CountToTime
pub mod TimeToCount
pub mod Reading
pub mod Printing
pub mod Numbers
pub mod Seam
pub mod Kept
pub mod Demand3
pub mod Places
pub mod Meets
pub mod WrittenOut
pub mod Needed
pub mod Witness
pub mod Refusals
