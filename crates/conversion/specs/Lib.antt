pub mod LastCount
