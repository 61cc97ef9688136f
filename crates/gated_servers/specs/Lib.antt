pub mod Openings
pub mod Statements
pub mod Frames
pub mod Records
pub mod Helpers
pub mod Leaders
pub mod Machines
pub mod Runs
