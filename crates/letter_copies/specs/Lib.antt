pub mod Copies
pub mod Fate
pub mod Laws
pub mod Runs
