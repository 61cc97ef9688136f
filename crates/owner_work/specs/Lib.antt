pub mod Laws
pub mod Rooms
pub mod Settling
pub mod Works
