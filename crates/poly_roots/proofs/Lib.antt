mod Coefficients
pub mod Steps
