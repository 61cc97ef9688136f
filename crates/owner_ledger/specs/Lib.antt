pub mod Checks
pub mod Desks
pub mod Opens
pub mod Puts
