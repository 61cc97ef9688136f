pub mod Changes
pub mod Gates
pub mod Slots
pub mod Table
