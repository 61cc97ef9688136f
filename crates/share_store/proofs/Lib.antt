pub mod CallLaws
pub mod ShareLemmas
