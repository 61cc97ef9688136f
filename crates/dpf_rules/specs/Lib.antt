pub mod Bytes
pub mod Expansion
pub mod Walk
pub mod Keys
pub mod Ideal
pub mod Evaluation
pub mod Laws
