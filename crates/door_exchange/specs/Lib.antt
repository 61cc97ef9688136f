pub mod Taking
pub mod Exchanging
