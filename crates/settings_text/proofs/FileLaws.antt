-- How many parts a file has.
use Rattle.std.proofs.Common.{◌≡◌, ℕ, ◌-◌, ◌*◌, ◌<◌, ◌≤◌, ◌^◌, ◌↔◌, nat_le, Bool, true, false, cond, List, length, Option, Some, None, IsSome, arith, refl, le-leb, leb-true}
use Rattle.std.specs.Prelude.{IfSome}
use Rattle.file_carry.specs.Parts.{IsPartWidth, count_of}
use Rattle.file_carry.proofs.CutLaws.{covers}
use Rattle.settings_text.specs.Files.{few_parts}

small : (count room len : ℕ) → len ≤ count * room → room ≤ 4080 → count ≤ 4096 → len ≤ 16711680
small count room len inside narrow few = grind arith

pub too_long : (width : ℕ) (file : List ℕ) → IsPartWidth width → (length file < 2 ^ 32 → ⊥) → None ≡ few_parts width file
unfolding few_parts
too_long width file allowed long = at_test (nat_le (count_of (length file) (width - 16)) 4096) refl
  where
    at_test : (t : Bool) → nat_le (count_of (length file) (width - 16)) 4096 ≡ t → None ≡ cond t (Some (count_of (length file) (width - 16))) None
    at_test true e =
        let most = allowed.1.1 in
        let least = allowed.0 in
        let whole = covers (length file) (width - 16) (omega (arith, least)) in
        let short = small (count_of (length file) (width - 16)) (width - 16) (length file) whole (omega (arith, most)) (leb-true _ _ e) in
        absurd (long (omega (arith, short)))
    at_test false e = refl

pub counted : (width : ℕ) (file : List ℕ) (len : ℕ) (r : Option ℕ) → IsPartWidth width → length file ≡ len
    → (IsSome r ↔ (IsPartWidth width × (count_of len (width - 16) ≤ 4096))) → IfSome r (λ count. count ≡ count_of len (width - 16)) → r ≡ few_parts width file
unfolding few_parts
counted width file len None allowed same limits count = rw same (at_test (nat_le (count_of len (width - 16)) 4096) refl)
  where
    at_test : (t : Bool) → nat_le (count_of len (width - 16)) 4096 ≡ t → None ≡ cond t (Some (count_of len (width - 16))) None
    at_test true e = let found = limits.1 (allowed, leb-true _ _ e) in cc
    at_test false e = refl
counted width file len (Some n) allowed same limits count =
    let few : count_of len (width - 16) ≤ 4096 = (limits.0 refl).1 in
    rw (same, le-leb (count_of len (width - 16)) 4096 few, count) refl
