pub mod CardLaws
pub mod PlaceLaws
pub mod TryLaws
pub mod BeginLaws
pub mod NotingLaws
pub mod AnswerLaws
pub mod WorkLaws
pub mod ReopenLaws
