use Rattle.std.proofs.Common.{sym, subst}
use Rattle.desk_ledger.specs.declared.fault.OpenFault.{OpenFault}
use Rattle.desk_ledger.specs.Opening.{IsOfFirst}
use Rattle.desk_ledger.proofs.StartLaws.{no_first}
use Rattle.desk_ledger.proofs.opening.pair_of.Goals as goal

pub returns-in-Err-clause-fault : goal.returns-in-Err-clause-fault
returns-in-Err-clause-fault c =
    let exact = c.sheet_is_read_exactly.ensures in
    subst (λ (f : OpenFault). IsOfFirst c.args.entries.now f) (sym c.as_no_pair.ensures)
    (no_first (record { only = exact.only; only_bad = exact.only_bad }) c.args.entries.now c.in-Some.text.now c.in-Err.fault
    (sym c.in-Some.ensures) c.in-Err.ensures.fault)
