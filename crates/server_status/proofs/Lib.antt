pub mod RunLaws
pub mod TallyLaws
