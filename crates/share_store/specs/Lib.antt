pub mod Calls
pub mod Marks
pub mod Shares
