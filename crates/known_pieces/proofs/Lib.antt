pub mod ListLaws
pub mod OpeningLaws
pub mod PeelingLaws
