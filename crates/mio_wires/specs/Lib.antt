pub mod Dials
pub mod Openings
pub mod Slots
