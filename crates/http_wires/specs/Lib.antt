pub mod Clients
pub mod Replies
pub mod Steps
pub mod Views
pub mod Responses
pub mod Runs
