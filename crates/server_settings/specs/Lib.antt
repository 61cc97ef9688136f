pub mod Keys
pub mod Judging
pub mod Values
pub mod Faults
pub mod Lookups
pub mod Files
