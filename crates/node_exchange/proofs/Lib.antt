pub mod TakingLaws
pub mod HeldLaws
pub mod EarlyLaws
