pub mod Laws
pub mod Listing
pub mod Mail
pub mod Parts
