pub mod AskingLaws
pub mod OwnLaws
pub mod FitLaws
pub mod PassedLaws
pub mod TellLaws
pub mod RunLaws
pub mod CarryLaws
pub mod PartLaws
