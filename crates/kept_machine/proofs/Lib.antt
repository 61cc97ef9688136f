pub mod FaultLaws
pub mod FormLaws
pub mod JournalLaws
pub mod KeptLaws
pub mod MakingLaws
pub mod ReplayLaws
