pub mod Answers
pub mod Asks
pub mod Faults
pub mod Laws
