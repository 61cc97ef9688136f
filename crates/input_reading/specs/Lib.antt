pub mod Reading
pub mod Seeds
pub mod Texts
