pub mod Bounds
mod Worked
