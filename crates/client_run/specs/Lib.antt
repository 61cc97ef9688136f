pub mod Accounts
pub mod Texts
pub mod Telling
pub mod Runs
pub mod Saying
pub mod Carrying
pub mod Carries
