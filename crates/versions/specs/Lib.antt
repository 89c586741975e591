-- Demand 3, stated in Versions, and with less asked of steps back in Seam; Needed states that nothing in it can be left out, and that it is not empty; Places, what places do there.
pub mod Versions
pub mod Seam
pub mod Equal
pub mod Needed
pub mod Places
