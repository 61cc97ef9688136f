pub mod AddLaws
pub mod DifferLemmas
pub mod RowLemmas
