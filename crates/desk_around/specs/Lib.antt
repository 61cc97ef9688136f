pub mod Chains
pub mod Ends
pub mod Halts
pub mod Laters
pub mod Printing
pub mod Reading
pub mod Rests
pub mod Scenes
