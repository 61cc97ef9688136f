pub mod Figures
pub mod Lines
pub mod Printed
pub mod Statuses
pub mod Tallies
pub mod Texts
pub mod Views
