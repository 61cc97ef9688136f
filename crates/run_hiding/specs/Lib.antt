pub mod Ideal
pub mod Sight
pub mod Moved
pub mod Laws
pub mod Flow
