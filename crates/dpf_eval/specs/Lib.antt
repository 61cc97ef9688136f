pub mod Listing
pub mod Order
pub mod Groups
pub mod Room
