pub mod Boxes
pub mod Closing
pub mod Letters
pub mod Moments
