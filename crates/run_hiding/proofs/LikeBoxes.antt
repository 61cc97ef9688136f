-- Boxes of two servers that are alike but for their shares.
use Rattle.std.proofs.Common.{◌≡◌, ◌∙◌, ℕ, List, [], ◌∷◌, length, map, slice_get, sym, ap, refl}
use Rattle.std.specs.Option.{option_map}
use Rattle.std.proofs.lemmas.List.{length-map}
use Rattle.std.proofs.lemmas.Option.{slice_get-map}
use Rattle.step_rules.specs.Boxes.{Box, addresses_of}

abbrev pub bare_box : Box → Box
bare_box box = record box { share = [] }

abbrev pub bares : List Box → List Box
bares boxes = map (λ box. bare_box box) boxes

addresses_bare : (boxes : List Box) → addresses_of (bares boxes) ≡ addresses_of boxes
addresses_bare [] = refl
addresses_bare (x ∷ boxes) = ap (λ l. x.address ∷ l) (addresses_bare boxes)

pub same_addresses : (xs ys : List Box) → bares xs ≡ bares ys → addresses_of xs ≡ addresses_of ys
same_addresses xs ys like = sym (addresses_bare xs) ∙ ap (λ l. addresses_of l) like ∙ addresses_bare ys

pub same_count : (xs ys : List Box) → bares xs ≡ bares ys → length xs ≡ length ys
same_count xs ys like =
    sym (length-map xs (λ box. bare_box box)) ∙ ap (λ (l : List Box). length l) like ∙ length-map ys (λ box. bare_box box)

pub same_box : (xs ys : List Box) (n : ℕ) → bares xs ≡ bares ys
    → option_map (λ box. bare_box box) (slice_get xs n) ≡ option_map (λ box. bare_box box) (slice_get ys n)
same_box xs ys n like =
    sym (slice_get-map (λ box. bare_box box) xs n) ∙ ap (λ l. slice_get l n) like ∙ slice_get-map (λ box. bare_box box) ys n
