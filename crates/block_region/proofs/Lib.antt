pub mod ArrayLaws
pub mod BlockLaws
pub mod CallLaws
pub mod FreeLaws
