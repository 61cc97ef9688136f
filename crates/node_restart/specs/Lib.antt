pub mod Calls
pub mod Frames
pub mod Keeping
pub mod Kept
pub mod MachineLaws
pub mod Machines
pub mod Openings
pub mod Steps
