pub mod Asking
pub mod Steps
pub mod Works
pub mod Texts
