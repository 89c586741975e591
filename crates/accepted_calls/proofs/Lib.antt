-- Under accepted tables a public call is what follows its checks.
pub mod Calls
