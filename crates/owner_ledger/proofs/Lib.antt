pub mod CheckLaws
pub mod MakeLaws
pub mod NoteLaws
pub mod PairLaws
