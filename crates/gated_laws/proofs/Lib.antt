pub mod Framed
pub mod Moves
pub mod Handing
