pub mod Draws
pub mod RunKeeps
pub mod Owners
pub mod Shown
