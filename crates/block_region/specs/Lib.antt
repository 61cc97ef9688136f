pub mod ArrayLending
pub mod Calls
pub mod Codes
pub mod Lending
pub mod Region
pub mod Slots
