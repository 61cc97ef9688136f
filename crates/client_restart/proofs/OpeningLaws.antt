-- A record tells the opening whose record it is.
use Rattle.std.proofs.Common.{◌≡◌, ℕ, ◌<◌, ◌^◌, List, take, drop, sym, ◌∙◌, ap, arith}
use Rattle.std.proofs.lemmas.Nat.{from_be_bytes-to_be_bytes_2, from_be_bytes-to_be_bytes_4}
use Rattle.std.specs.Int.{w16, w32, to_be_bytes, from_be_bytes}
use Rattle.client_restart.specs.declared.opening.ClientOpening.{ClientOpening}
use Rattle.client_restart.specs.Openings.{IsClientOpening, opening_record}

wide_one : (a b : ℕ) → a < 2 ^ 32 → b < 2 ^ 32 → to_be_bytes w32 a ≡ to_be_bytes w32 b → a ≡ b
wide_one a b fa fb is = sym (from_be_bytes-to_be_bytes_4 a fa) ∙ ap (from_be_bytes w32) is ∙ from_be_bytes-to_be_bytes_4 b fb

short_one : (a b : ℕ) → a < 2 ^ 16 → b < 2 ^ 16 → to_be_bytes w16 a ≡ to_be_bytes w16 b → a ≡ b
short_one a b fa fb is = sym (from_be_bytes-to_be_bytes_2 a fa) ∙ ap (from_be_bytes w16) is ∙ from_be_bytes-to_be_bytes_2 b fb

abbrev made : ℕ → ℕ → ℕ → ℕ → List ℕ → ClientOpening
made lane width capacity first seed = record { lane = lane; width = width; capacity = capacity; first_serial = first; seed = seed }

pub one_opening : (a b : ClientOpening) → IsClientOpening a → IsClientOpening b → opening_record a ≡ opening_record b → a ≡ b
one_opening a b ia ib is =
    let lane = short_one a.lane b.lane ia.lane ib.lane (ap (λ (l : List ℕ). take 2 (drop 1 l)) is) in
    let width = wide_one a.width b.width (omega (arith, ia.width.1)) (omega (arith, ib.width.1)) (ap (λ (l : List ℕ). take 4 (drop 3 l)) is) in
    let capacity = wide_one a.capacity b.capacity (omega (arith, ia.capacity)) (omega (arith, ib.capacity)) (ap (λ (l : List ℕ). take 4 (drop 7 l)) is) in
    let first = wide_one a.first_serial b.first_serial ia.serial.1 ib.serial.1 (ap (λ (l : List ℕ). take 4 (drop 11 l)) is) in
    let seed : a.seed ≡ b.seed = ap (λ (l : List ℕ). drop 15 l) is in
    ap (λ (x : ℕ). made x a.width a.capacity a.first_serial a.seed) lane
    ∙ ap (λ (x : ℕ). made b.lane x a.capacity a.first_serial a.seed) width
    ∙ ap (λ (x : ℕ). made b.lane b.width x a.first_serial a.seed) capacity
    ∙ ap (λ (x : ℕ). made b.lane b.width b.capacity x a.seed) first
    ∙ ap (λ (x : List ℕ). made b.lane b.width b.capacity b.first_serial x) seed
