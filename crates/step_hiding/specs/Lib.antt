pub mod Worlds
pub mod Twins
pub mod HelperWorlds
pub mod HelperTwins
pub mod HelperLaws
pub mod LeaderWorlds
pub mod LeaderTwins
pub mod LeaderLaws
