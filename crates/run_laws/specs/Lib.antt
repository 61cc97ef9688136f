pub mod Draws
pub mod Owners
pub mod Shown
