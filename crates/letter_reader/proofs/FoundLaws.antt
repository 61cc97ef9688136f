-- Whether a piece is among those that are known, or tried.
use Rattle.std.proofs.Common.{◌≡◌, ◌<◌, ◌≤◌, ◌↔◌, ℕ, List, [], true, false, length, get_or, refl, sym, ap}
use Rattle.std.proofs.Common.{◌∙◌}
use Rattle.std.proofs.Common.{arith}
use Rattle.std.specs.Bool.{IsTrue}
use Rattle.std.specs.List.{All, Contains}
use Rattle.std.proofs.lemmas.Bool.{false≢true}
use Rattle.std.proofs.lemmas.List.{get_or-map, get_or_default}
use Rattle.std.proofs.lemmas.List.Elements.{All-get_or}
use Rattle.subset_search.specs.Subsets.{boxes_at}
use Rattle.subset_search.proofs.SumLaws.{box_read}
use Rattle.known_pieces.specs.Telling.{KnownPiece, bytes_of}

pub known_read : (known : List KnownPiece) (i : ℕ) (item : KnownPiece) → i < length known
    → item ≡ get_or known i item →
    get_or (bytes_of known) i [] ≡ item.bytes
known_read known i item lt is =
    get_or-map (λ (p : KnownPiece). p.bytes) known i item [] lt ∙ ap (λ (p : KnownPiece). p.bytes) (sym is)

pub tried_read : (known : List KnownPiece) (tried : List ℕ) (k : ℕ) (item : KnownPiece) → k < length tried →
    All (λ i. i < length known) tried → item ≡ get_or known (get_or tried k 0) item →
    get_or (boxes_at (bytes_of known) tried) k [] ≡ item.bytes
tried_read known tried k item lt within is =
    box_read (λ (p : KnownPiece). p.bytes) known tried k item lt
    (All-get_or (λ i. i < length known) tried k 0 lt within) is

-- found at k
pub found_at : (boxes : List (List ℕ)) (k : ℕ) (bytes : List ℕ) → k < length boxes
    → get_or boxes k [] ≡ bytes →
    IsTrue true ↔ Contains boxes bytes
found_at boxes k bytes lt is = ((λ t. (k, lt, get_or_default boxes k bytes [] lt ∙ is)), (λ there. refl))

-- found nowhere
pub found_none : (boxes : List (List ℕ)) (n : ℕ) (bytes : List ℕ) → length boxes ≤ n →
    ((k : ℕ) → k < n → get_or boxes k [] ≡ bytes → ⊥) → IsTrue false ↔ Contains boxes bytes
found_none boxes n bytes le none = (
  (λ t. absurd (false≢true t)),
  (λ there.
      absurd (none there.0 (let lt = there.1 in omega arith) (get_or_default boxes there.0 [] bytes there.1
      ∙ there.2))),
)
