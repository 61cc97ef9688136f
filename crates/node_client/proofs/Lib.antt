pub mod TalkLaws
pub mod TurnLaws
pub mod AskLaws
pub mod StepLaws
pub mod EarlyLaws
pub mod WalkLaws
pub mod RequestLaws
pub mod WorkLaws
