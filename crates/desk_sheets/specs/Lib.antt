pub mod Earlier
pub mod FaultText
pub mod Heads
pub mod Judging
pub mod Keys
pub mod Printing
pub mod Sheets
pub mod Spelling
