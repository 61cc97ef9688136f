pub mod DigestLaws
pub mod LeaseLaws
pub mod NoteLaws
pub mod PassingLaws
pub mod RecordLaws
pub mod RowLaws
pub mod StatementLaws
pub mod TicketLaws
