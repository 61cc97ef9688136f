pub mod CallLaws
pub mod LinkLaws
pub mod RingLaws
