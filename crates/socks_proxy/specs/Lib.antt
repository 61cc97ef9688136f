pub mod Forms
pub mod Talks
pub mod Routes
pub mod Circuits
pub mod Dials
pub mod Texts
pub mod Telling
