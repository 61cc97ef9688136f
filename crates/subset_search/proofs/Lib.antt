pub mod ChoiceLaws
pub mod SumLaws
