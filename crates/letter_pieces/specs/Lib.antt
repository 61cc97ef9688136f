pub mod FaultText
pub mod Fields
pub mod Laws
pub mod Pieces
pub mod Places
pub mod Reading
pub mod Sizes
