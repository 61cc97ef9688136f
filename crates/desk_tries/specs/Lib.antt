pub mod Draws
pub mod Fate
pub mod Laws
pub mod Runs
pub mod Servers
pub mod Steps
