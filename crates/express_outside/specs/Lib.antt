pub mod Calls
pub mod Patience
pub mod Copying
pub mod Answers
pub mod NetCalls
pub mod FileReads
