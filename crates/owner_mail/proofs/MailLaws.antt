-- What the boxes of each name tell.
use Rattle.std.proofs.Common.{◌≡◌, ◌∙◌, ◌+◌, ◌-◌, ◌<◌, ℕ, List, [], ◌∷◌, ◌++◌, Option, length, map}
use Rattle.std.proofs.Common.{Bor, take, get_or, sym, ap, subst}
use Rattle.std.specs.Prelude.{slice_get}
use Rattle.std.specs.Option.{option_map}
use Rattle.std.specs.List.{AllZip}
use Rattle.std.proofs.lemmas.List.{length-map, take_more}
use Rattle.std.proofs.lemmas.Option.{slice_get-map}
use Rattle.kept_ledger.specs.declared.entry.Reading.{Reading}
use Rattle.owner_mail.specs.Places.{newest_seconds, seconds_at}

-- ---- one list beside another

pub zip_push : {A B : Type 0} (R : A → B → Type 0) (xs : List A) (ys : List B) (x : A) (y : B)
    → AllZip R xs ys
    → R x y → AllZip R (xs ++ x ∷ []) (ys ++ y ∷ [])
zip_push R [] [] x y all is = (is, tt)
zip_push R [] (c ∷ ys) x y all is = absurd all
zip_push R (q ∷ xs) [] x y all is = absurd all
zip_push R (q ∷ xs) (c ∷ ys) x y all is = (all.0, zip_push R xs ys x y all.1 is)

pub zip_more : {A B : Type 0} (R : A → B → Type 0) (xs : List A) (ys : List B) (i : ℕ) (x : A) (y : B)
    → i < length xs → x ≡ get_or xs i x → AllZip R (take i xs) ys → R x y
    → AllZip R (take (i + 1) xs) (ys ++ y ∷ [])
zip_more {A} {B} R xs ys i x y within at all is =
    let more : take (i + 1) xs ≡ take i xs ++ x ∷ [] =
    take_more xs i x within ∙ ap (λ (a : A). take i xs ++ a ∷ []) (sym at) in
    subst (λ (l : List A). AllZip R l (ys ++ y ∷ [])) (sym more) (zip_push R (take i xs) ys x y all is)

-- ---- the newest reading

-- of readings that are lent
pub newest_lent : (readings : List (Bor Reading)) (newest : Option (Bor Reading))
    → newest ≡ slice_get readings (length readings - 1)
    → seconds_at (option_map (λ r. r.now) newest) ≡ newest_seconds (map (λ r. r.now) readings)
newest_lent readings newest is =
    ap (λ (o : Option (Bor Reading)). seconds_at (option_map (λ r. r.now) o)) is
    ∙ ap seconds_at (sym (slice_get-map (λ (r : Bor Reading). r.now) readings (length readings - 1)))
    ∙ ap (λ (n : ℕ). seconds_at (slice_get (map (λ (r : Bor Reading). r.now) readings) (n - 1)))
    (sym (length-map readings (λ (r : Bor Reading). r.now)))
