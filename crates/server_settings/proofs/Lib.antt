pub mod FaultLaws
pub mod TableLaws
pub mod UnknownLaws
