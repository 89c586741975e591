-- The proofs of specs/, a file for each topic:
--     Refusals                  which table is refused
--     Ladder                    what a verdict says of each condition's rows
--     Hypotheses                from a condition's rows to its hypotheses and back
--     Succession                what the answer means
--     Times, Reading, Horizon   below the horizon
pub mod Refusals
pub mod Ladder
pub mod Hypotheses
pub mod Succession
pub mod Times
pub mod Reading
pub mod Horizon
