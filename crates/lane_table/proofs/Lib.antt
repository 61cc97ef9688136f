pub mod ChangeLaws
pub mod GateLaws
pub mod LaneLaws
