pub mod EndLaws
pub mod LastEndLaws
pub mod LeaseLaws
pub mod LongestLaws
pub mod OneLaws
pub mod RecordLaws
pub mod RestLaws
