pub mod Adds
pub mod Arrays
pub mod Boxes
pub mod Texts
