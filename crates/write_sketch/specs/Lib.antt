pub mod Eight
pub mod Parts
