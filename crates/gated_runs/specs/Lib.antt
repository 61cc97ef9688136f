pub mod Tickets
pub mod Leases
pub mod Logs
