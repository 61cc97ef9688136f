pub mod BatchLaws
mod Contents
mod Found
mod Histories
mod LogLaws
pub mod Moments
pub mod Places
mod Singles
mod Steps
mod Tears
mod Walks
