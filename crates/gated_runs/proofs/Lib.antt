mod Noting
mod Following
mod Asking
mod HelperLaws
mod LeaderLaws
mod LeaseLaws
mod SinceLaws
