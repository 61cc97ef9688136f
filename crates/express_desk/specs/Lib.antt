pub mod Missing
pub mod Real
