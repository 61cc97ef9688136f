pub mod CallLaws
pub mod TakingLaws
