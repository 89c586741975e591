-- The first `/`, and what each way out of parsing says.
pub mod Slash
pub mod Parse
