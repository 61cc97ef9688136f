pub mod Bytes
pub mod LedgerLaws
pub mod Pieces
pub mod SettledLaws
