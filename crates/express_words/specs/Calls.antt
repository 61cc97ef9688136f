-- The calls of a net.
use Rattle.std.specs.Prelude.{◌≡◌, ℕ, ◌==◌, Bool, List, [], ◌∷◌, ◌++◌, Option, Some, None}
use Rattle.express_words.specs.Streams.{Stream}

-- A call on a net: a listen with its text, an accept and a dial with its peer, each with whether it failed;
-- a close with the bytes that its connection gave and took, and whether its count of faults is 0.
pub data Call : Type 0 where
  Listened : List ℕ → Bool → Call
  Accepted : Bool → Call
  Dialled : List ℕ → Bool → Call
  Closed : List ℕ → List ℕ → Bool → Call

-- From old to new one call was made. A net that tells its calls now told them before;
-- of one that doesn't tell them now nothing is said.
abbrev pub Adds : Option (List Call) → Option (List Call) → Call → Type 0
Adds old None call = Unit {0}
Adds None (Some new) call = ⊥
Adds (Some old) (Some new) call = new ≡ old ++ call ∷ []

-- A net that tells its calls gives connections that tell their bytes: none given and none taken yet.
-- So what a connection took and has left can be said of it until its close.
abbrev pub GivesTelling : Option (List Call) → Option Stream → Option (List ℕ) → Type 0
GivesTelling None content written = Unit {0}
GivesTelling (Some calls) None written = ⊥
GivesTelling (Some calls) (Some stream) None = ⊥
GivesTelling (Some calls) (Some stream) (Some bytes) = (stream.given ≡ []) × (bytes ≡ [])

-- From old to new a connection was closed, of which the net can tell only what the connection tells.
abbrev pub AddsClose : Option (List Call) → Option (List Call) → Option Stream → Option (List ℕ) → ℕ → Type 0
AddsClose old None content written count = Unit {0}
AddsClose old (Some new) None written count = ⊥
AddsClose old (Some new) (Some stream) None count = ⊥
AddsClose old (Some new) (Some stream) (Some bytes) count =
    Adds old (Some new) (Closed stream.given bytes (count == 0))
