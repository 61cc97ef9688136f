use Rattle.std.proofs.Common.{◌≡◌, length, map}
use Rattle.kept_ledger.specs.Ledgers.{fold_from}
use Rattle.kept_ledger.specs.Notes.{plain_note}
use Rattle.owner_ledger.proofs.noting.note_all.Given as goal

abbrev pub invariant-loop-rest : goal.invariant-loop-rest
invariant-loop-rest g l =
    record {
      noted : fold_from l.kept.machine.ledger.state (map plain_note l.rest)
          ≡ fold_from l.fn.kept.machine.ledger.state (map plain_note l.notes);
      still_open : l.kept.journal.closed ≡ l.fn.kept.journal.closed;
    }

abbrev pub decreases-loop-rest : goal.decreases-loop-rest
decreases-loop-rest g l = length l.rest
