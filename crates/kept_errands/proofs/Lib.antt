pub mod TalkLaws
pub mod StepLaws
pub mod OnwardLaws
pub mod WorkLaws
