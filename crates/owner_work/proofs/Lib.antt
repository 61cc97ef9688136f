pub mod KeepLaws
pub mod NetLaws
pub mod OnlyLaws
pub mod ReadsLaws
pub mod SettleLaws
pub mod StopLaws
