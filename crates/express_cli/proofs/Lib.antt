pub mod Writing
pub mod OneReading
pub mod ByTask
pub mod Asked
pub mod Settling
pub mod Telling
pub mod Steps
pub mod CountLaws
