mod EndLaws
mod FateLaws
mod PartLaws
mod RunLaws
mod StandingLaws
mod TryLaws
