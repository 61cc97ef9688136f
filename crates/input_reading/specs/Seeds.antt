-- Taking a seed from a source.
use Rattle.std.specs.Prelude.{◌≡◌, ℕ, ◌<◌, ◌≤◌, Option, IfSome, List, length, codes, ◌++◌}
use Rattle.std.specs.Fmt.{decimal}
use Rattle.express_words.specs.Causes.{Rose, next}
use Rattle.express_words.specs.Seen.{Seen}
use Rattle.express_words.specs.Streams.{Stream, IsAtEnd, left_in}
use Rattle.input_reading.specs.Reading.{GaveSome}
use Rattle.input_reading.specs.declared.seed.SeedFault.{SeedFault}
use Rattle.input_reading.specs.declared.seed.SeedFault.TheVariants.{Failed, Early}

-- a seed has so many bytes
abbrev pub seed_bytes : ℕ
seed_bytes = 32

-- Why a source gave no seed: it failed once, and this is its count now; or it ended, without a fault, after
-- this many bytes, which are too few.
abbrev pub GaveNoSeed : Option Stream → Option Stream → ℕ → ℕ → SeedFault → Type 0
GaveNoSeed old new before now (Failed count) =
    (now ≡ next before) × (count ≡ now) × GaveSome old new (λ n. n < seed_bytes)
GaveNoSeed old new before now (Early length) =
    (length < seed_bytes) × (now ≡ before) × IsAtEnd new × GaveSome old new (λ n. n ≡ length)

-- The fact holds where a source tells what it has left, that is enough for a seed, and it doesn't fail.
abbrev pub WithEnough : Seen → Seen → Type 0 → Type 0
WithEnough old new Fact =
    IfSome (left_in old.content) (λ left. seed_bytes ≤ length left → ¬ Rose old.faults new.faults → Fact)

-- The fact holds of how many bytes a source has left, where it tells that, they are too few for a seed, and it
-- doesn't fail.
abbrev pub WithTooFew : Seen → Seen → (ℕ → Type 0) → Type 0
WithTooFew old new Fact = IfSome (left_in old.content)
    (λ left. length left < seed_bytes → ¬ Rose old.faults new.faults → Fact (length left))

abbrev pub seed_fault_text : SeedFault → List ℕ
seed_fault_text (Failed count) =
    codes "the source of random bytes failed (faults: " ++ (decimal count ++ codes ")")
seed_fault_text (Early length) =
    codes "the source of random bytes ended after " ++ (decimal length ++ codes " bytes")
