pub mod CommandLine
pub mod Places
pub mod Tasks
