pub mod Lists
pub mod HelperSteps
pub mod LeaderSteps
mod Real
