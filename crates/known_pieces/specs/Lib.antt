pub mod Known
pub mod Laws
pub mod Opening
pub mod Peeling
pub mod Telling
