pub mod Batches
pub mod Disk
pub mod History
pub mod Journal
pub mod Memory
pub mod Next
pub mod Records
pub mod Texts
