-- The calls of a round trip whose connection stayed whole.
use Rattle.std.proofs.Common.{◌≡◌, ℕ, true, false, List, [], ◌∷◌, append_assoc, arith}
use Rattle.std.specs.Prelude.{Option}
use Rattle.express_words.specs.Calls.{Call, Dialled, Closed, Adds, AddsClose, GivesTelling}
use Rattle.express_words.specs.Seen.{Seen}
use Rattle.express_words.specs.Streams.{Gave, Took}
use Rattle.node_exchange.specs.Exchanging.{Makes}

pub calls_made : (a b d : Option (List Call)) (first sent all : Seen) (place text given : List ℕ)
    → Adds a b (Dialled place false) → GivesTelling b first.content first.written
    → Took first.written sent.written text → sent.content ≡ first.content
    → Gave sent.content all.content given
    → all.written ≡ sent.written → all.faults ≡ 0 → AddsClose b d all.content all.written all.faults
    → Makes a d (Dialled place false ∷ Closed given text true ∷ [])
calls_made a b d first sent all place text given dialled tells took content gave written whole closed =
    grind (arith, append_assoc)
