pub mod Histories
pub mod Suppositions
pub mod WriteLaws
pub mod HelperRuns
pub mod LeaderRuns
pub mod RealWrites
