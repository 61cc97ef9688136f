pub mod Faults
pub mod Keeps
pub mod Kept
pub mod Machines
pub mod Replays
pub mod Texts
