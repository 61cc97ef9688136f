pub mod TaggedForms
pub mod Writes
pub mod Spelled
