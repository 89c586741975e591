-- The sentences, and a refusal put together of its fields.
pub mod Sentences
pub mod Refusals
