pub mod Talks
pub mod Steps
pub mod Work
pub mod Texts
