-- Addresses of 16 bytes each.
use Rattle.std.proofs.Common.{◌≡◌, ℕ, ◌*◌, List, [], ◌∷◌, ◌++◌, length, refl, ◌∙◌, ap, ◌<◌, ◌^◌, arith}
use Rattle.std.specs.Int.{w128, to_be_bytes}
use Rattle.kept_ledger.specs.Notes.{AreAddresses, address_bytes}

pub flat_size : (addresses : List ℕ) → length (address_bytes addresses) ≡ 16 * length addresses
flat_size [] = refl
flat_size (a ∷ addresses) = let ih = flat_size addresses in omega (arith, ih)

flat_step : (addresses more : List ℕ) (a : ℕ)
    → address_bytes (addresses ++ a ∷ []) ++ more ≡ address_bytes addresses ++ (to_be_bytes w128 a ++ more)
flat_step [] more a = refl
flat_step (x ∷ addresses) more a =
    ap (λ (l : List ℕ). to_be_bytes w128 x ++ l) (flat_step addresses more a)

pub flat_more : (addresses front more : List ℕ) (a : ℕ) → to_be_bytes w128 a ≡ front
    → address_bytes (addresses ++ a ∷ []) ++ more ≡ address_bytes addresses ++ (front ++ more)
flat_more addresses front more a is =
    flat_step addresses more a ∙ ap (λ (l : List ℕ). address_bytes addresses ++ (l ++ more)) is

pub are_push : (addresses : List ℕ) (a : ℕ) → AreAddresses addresses → a < 2 ^ 128
    → AreAddresses (addresses ++ a ∷ [])
are_push [] a are is = (is, tt)
are_push (x ∷ addresses) a are is = (are.0, are_push addresses a are.1 is)
