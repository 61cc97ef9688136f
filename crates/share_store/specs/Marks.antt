-- The shares, read from the marks of live boxes and from their bytes.
use Rattle.std.specs.Prelude.{ℕ, Bool, List, [], ◌∷◌}
use Rattle.share_store.specs.Shares.{Share}

-- box by box, as far as both go
abbrev pub shares_in : List Bool → List (List ℕ) → List Share
shares_in [] blocks = []
shares_in (live ∷ lives) [] = []
shares_in (live ∷ lives) (bytes ∷ blocks) = record { bytes = bytes; live = live } ∷ shares_in lives blocks
