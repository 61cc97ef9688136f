pub mod Choosing
pub mod Ends
pub mod Leases
pub mod Machines
pub mod Records
pub mod Resting
pub mod Runs
