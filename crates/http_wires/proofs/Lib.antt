pub mod Hearing
pub mod PlaceLaws
pub mod RoomLaws
pub mod RunLaws
