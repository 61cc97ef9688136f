-- What a kept note does.
use Rattle.std.proofs.Common.{◌≡◌, ◌∙◌, List, ℕ, ap, sym, subst}
use Rattle.kept_ledger.specs.declared.machine.KeptLedger.{KeptLedger}
use Rattle.kept_ledger.specs.Ledgers.{step_of}
use Rattle.kept_ledger.specs.Machines.{StepsLedger}
use Rattle.kept_ledger.specs.Notes.{IsNote, Noted, note_record}
use Rattle.kept_ledger.proofs.NoteLaws.{one_note}

-- the step is that of the note whose record was kept
pub noted : (note : Noted) (before now : KeptLedger) → IsNote note
    → StepsLedger (note_record note) before now → now.ledger.state ≡ step_of before.ledger.state note
noted note before now is steps =
    let same : note ≡ steps.note = one_note note steps.note is steps.whole steps.is in
    steps.step ∙ ap (step_of before.ledger.state) (sym same)
