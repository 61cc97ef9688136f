pub mod PaperLaws
pub mod PrintLaws
