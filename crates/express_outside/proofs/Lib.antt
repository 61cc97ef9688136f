pub mod Written
pub mod Copied
pub mod FileReadLaws
