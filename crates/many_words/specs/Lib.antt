pub mod Doors
pub mod Events
pub mod Memory
pub mod Notes
pub mod Takes
