-- Addresses of 16 bytes each.
use Rattle.std.proofs.Common.{◌≡◌, ℕ, ◌*◌, List, [], ◌∷◌, ◌++◌, length, refl, ◌∙◌, ap, arith}
use Rattle.std.specs.Int.{w128, to_be_bytes}
use Rattle.std.specs.List.{flat_map}
use Rattle.desk_entries.specs.Entries.{AreAddresses, IsAddress}

flat_step : (addresses more : List ℕ) (a : ℕ) → flat_map (to_be_bytes w128) (addresses ++ a ∷ []) ++ more ≡ flat_map (to_be_bytes w128) addresses ++ (to_be_bytes w128 a ++ more)
flat_step [] more a = refl
flat_step (x ∷ addresses) more a = ap (λ (l : List ℕ). to_be_bytes w128 x ++ l) (flat_step addresses more a)

pub flat_more : (addresses front more : List ℕ) (a : ℕ) → to_be_bytes w128 a ≡ front → flat_map (to_be_bytes w128) (addresses ++ a ∷ []) ++ more ≡ flat_map (to_be_bytes w128) addresses ++ (front ++ more)
flat_more addresses front more a is =
    flat_step addresses more a ∙ ap (λ (l : List ℕ). flat_map (to_be_bytes w128) addresses ++ (l ++ more)) is

pub are_push : (addresses : List ℕ) (a : ℕ) → AreAddresses addresses → IsAddress a → AreAddresses (addresses ++ a ∷ [])
are_push [] a are is = (is, tt)
are_push (x ∷ addresses) a are is = (are.0, are_push addresses a are.1 is)

pub flat_size : (addresses : List ℕ) → length (flat_map (to_be_bytes w128) addresses) ≡ 16 * length addresses
flat_size [] = refl
flat_size (a ∷ addresses) = let ih = flat_size addresses in omega (arith, ih)
