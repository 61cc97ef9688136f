pub mod HaltLaws
pub mod StepLaws
pub mod WorkLaws
