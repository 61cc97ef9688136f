mod GivenLaws
mod LateLaws
mod OpenLaws
