pub mod Runs
pub mod Once
