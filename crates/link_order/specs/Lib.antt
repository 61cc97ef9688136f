pub mod Arrivals
pub mod Calls
pub mod Link
pub mod Ring
