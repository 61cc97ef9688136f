-- What holds of a ledger's records.
use Rattle.std.proofs.Common.{refl, ◌∙◌, ap}
use Rattle.kept_machine.specs.Machines.{RulesHold}
use Rattle.kept_ledger.specs.Ledgers.{LedgerState, step_of}
use Rattle.kept_ledger.specs.Machines.{ledger_rules}

pub ledger_rules_hold : RulesHold ledger_rules
ledger_rules_hold = record {
  itself = λ a. refl;
  then_same = λ a b c first second. second ∙ first;
  then_steps = λ bytes a b c same steps. record {
    note = steps.note;
    whole = steps.whole;
    is = steps.is;
    step = steps.step ∙ ap (λ (s : LedgerState). step_of s steps.note) same;
  };
}
