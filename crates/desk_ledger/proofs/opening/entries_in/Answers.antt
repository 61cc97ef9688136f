use Rattle.std.proofs.Common.{List, subst}
use Rattle.desk_entries.specs.declared.entry.Entry.{Entry}
use Rattle.desk_ledger.specs.Opening.{IsOfFirst}
use Rattle.desk_ledger.proofs.StartLaws.{no_desk}
use Rattle.desk_ledger.proofs.opening.entries_in.Goals as goal

pub returns-in-Err-clause-fault : goal.returns-in-Err-clause-fault
returns-in-Err-clause-fault c =
    no_desk c.in_ok-entries.entries.items _ c.in-Err.fault c.in_ok-entries.ensures.are c.in_ok-entries.ensures.told
    (subst (λ (l : List Entry). IsOfFirst l c.in-Err.fault) c.deref.ensures.value c.in-Err.ensures.fault)
