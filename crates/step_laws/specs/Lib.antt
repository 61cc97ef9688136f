pub mod Draws
pub mod Causes
pub mod Lanes
pub mod Points
pub mod Replies
