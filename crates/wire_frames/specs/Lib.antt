pub mod Answers
pub mod Fronts
pub mod Headers
pub mod Judging
pub mod Writing
