mod RowLemmas
mod CommandLemmas
mod RegisterLemmas
mod AuditLemmas
mod LinkLemmas
