mod Left
mod HelperOnce
mod LeaderOnce
