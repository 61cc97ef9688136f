-- What is noted of a frame.
use Rattle.std.specs.Prelude.{ℕ, Bool, true, false, List, Option, Some, None}

abbrev pub noted_if : Bool → List ℕ → Option (List ℕ)
noted_if true bytes = Some bytes
noted_if false bytes = None
