-- What a source gave, piece by piece, and what it has left.
use Rattle.std.proofs.Common.{◌≡◌, ℕ, ◌<◌, List, [], ◌++◌, length, Option, arith, append-nil, length-append, Result, Ok, Err, IfSome}
use Rattle.std.proofs.lemmas.List.{append_assoc}
use Rattle.express_words.specs.Causes.{Rose}
use Rattle.express_words.specs.Streams.{Stream, Gave, left_in}
use Rattle.input_reading.specs.Seeds.{seed_bytes}
use Rattle.input_reading.specs.declared.seed.SeedFault.{SeedFault}
use Rattle.input_reading.specs.declared.seed.SeedFault.TheVariants.{Early}

-- two pieces one after another
pub gave_more : (a b c : Option Stream) (x y : List ℕ) → Gave a b x → Gave b c y → Gave a c (x ++ y)
gave_more a b c x y first second = grind (arith, append_assoc)

pub gave_no_more : (a b c : Option Stream) (x : List ℕ) → Gave a b x → Gave b c [] → Gave a c x
gave_no_more a b c x first second = grind (arith, append-nil)

-- a source that gave a seed had not too few bytes left
pub not_early : (a b : Option Stream) (c d : ℕ) (seed : List ℕ) → Gave a b seed → length seed ≡ seed_bytes
    → IfSome (left_in a) (λ left. length left < seed_bytes → ¬ Rose c d → (let end : Result (List ℕ) SeedFault = Ok seed in end) ≡ Err (Early (length left)))
not_early a b c d seed gave long = grind (arith, length-append)
