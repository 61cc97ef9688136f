-- What holds of an owner's work.
use Rattle.std.specs.Prelude.{◌≡◌, List, ◌++◌}
use Rattle.kept_ledger.specs.declared.entry.Reading.{Reading}
use Rattle.kept_ledger.specs.Ledgers.{LedgerState}
use Rattle.owner_work.specs.Works.{OnlyWorks}

-- Pair, seed, names and marks are the same, and what boxes held stands there still, before what came since.
pub record KeepsDesk (s now : LedgerState) : Type 0 where
  pub pair : now.pair ≡ s.pair
  pub seed : now.seed ≡ s.seed
  pub named : now.named ≡ s.named
  pub marks : now.marks ≡ s.marks
  pub more : List Reading
  pub readings : now.readings ≡ s.readings ++ more

abbrev pub WorkKeepsTheDesk : Type 0
WorkKeepsTheDesk = (s now : LedgerState) → OnlyWorks s now → KeepsDesk s now
