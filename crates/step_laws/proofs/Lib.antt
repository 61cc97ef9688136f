pub mod Draws
pub mod LeaderCauses
pub mod HelperCauses
pub mod Lanes
pub mod Points
pub mod Replies
