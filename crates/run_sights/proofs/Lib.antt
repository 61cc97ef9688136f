mod Moved
mod Writes
mod HelperSights
mod LeaderSights
mod Clients
