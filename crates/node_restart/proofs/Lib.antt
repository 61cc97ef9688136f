pub mod FrameLaws
pub mod HandLaws
pub mod KeepLaws
pub mod KeptLaws
pub mod MachineLaws
pub mod OpeningLaws
pub mod StepLaws
pub mod UpToLaws
