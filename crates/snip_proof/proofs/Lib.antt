mod Steps
pub mod Writes
