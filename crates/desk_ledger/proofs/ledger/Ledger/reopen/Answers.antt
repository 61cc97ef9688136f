use Rattle.std.proofs.Common.{List, ℕ, subst}
use Rattle.client_restart.specs.Steps.{fold}
use Rattle.desk_ledger.specs.Ledgers.{IsDesk}
use Rattle.desk_ledger.proofs.StartLaws.{one_desk}
use Rattle.desk_ledger.proofs.ledger.Ledger.reopen.Goals as goal

pub returns-in-Ok-entries_in-clause-told : goal.returns-in-Ok-entries_in-clause-told
returns-in-Ok-entries_in-clause-told g c o notes d entries read is_opening all held are told =
    let same = c.in-Ok.ensures.told o notes d read is_opening all held in
    let desk = subst (λ (l : List (List ℕ)). IsDesk c.in-Ok-entries_in.pair c.in-Ok-entries_in.entries.items l) c.remarks.ensures c.in-Ok-entries_in.ensures.desk in
    (same.0, same.1, one_desk c.in-Ok-entries_in.pair c.in-Ok-entries_in.entries.items entries c.in-Ok.client.core (fold o notes) desk same.1 are told)
