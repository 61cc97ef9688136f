pub mod FaultText
pub mod Hidden
pub mod Laws
pub mod Letters
pub mod Naming
pub mod Opening
pub mod Screen
