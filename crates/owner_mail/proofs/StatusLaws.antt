-- What is told of how a desk stands.
use Rattle.std.proofs.Common.{◌≡◌, ℕ, List, ◌++◌, Option, refl, subst}
use Rattle.express_words.specs.Streams.{Took}
use Rattle.desk_lines.specs.Boxes.{pair_line}
use Rattle.kept_ledger.specs.Ledgers.{LedgerState}
use Rattle.desk_around.specs.Printing.{Prints}
use Rattle.desk_around.proofs.PrintLaws.{took_three}
use Rattle.owner_mail.specs.Status.{TellsStatus, TellsWork, boxes_lines}

-- the servers, the boxes and the work are printed one behind another
pub tells_status : (s : LedgerState) (full : ℕ) (text work : List ℕ) (old one two new : Option (List ℕ))
    → Took old one (pair_line s.pair.leader.place s.pair.helper.place) → Took one two (boxes_lines s)
    → TellsWork s full text → work ≡ text → Took two new work → Prints (TellsStatus s full) old new
tells_status s full text work old one two new a b tells same c = (
  pair_line s.pair.leader.place s.pair.helper.place ++ (boxes_lines s ++ text),
  record { work = text; tells = tells; is = refl },
  took_three (pair_line s.pair.leader.place s.pair.helper.place) (boxes_lines s) text old one two new a b
      (subst (λ (t : List ℕ). Took two new t) same c),
)
