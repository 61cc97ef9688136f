pub mod HelperRefusals
pub mod LeaderRefusals
pub mod HelperNeeds
pub mod LeaderNeeds
pub mod HelperFirsts
pub mod LeaderFirsts
