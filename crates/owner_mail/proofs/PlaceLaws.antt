-- Readings that are placed on a card.
use Rattle.std.proofs.Common.{◌≡◌, ◌∙◌, ◌<◌, ℕ, List, [], ◌∷◌, ◌++◌, Bool, cond, Option, Some}
use Rattle.std.proofs.Common.{None, length, map, arith}
use Rattle.std.proofs.lemmas.List.{append-nil}
use Rattle.std.proofs.lemmas.Bool.{cases_Bool, eqb-true}
use Rattle.std.proofs.Common.{inl, inr, subst, sym, eqb}
use Rattle.std.specs.List.{filter_map, position, cons_option}
use Rattle.std.proofs.lemmas.List.Elements.{All-nil, All-cons}
use Rattle.known_pieces.specs.Known.{Reading as BoxReading}
use Rattle.letter_reader.specs.Reader.{AreBoxes}
use Rattle.kept_ledger.specs.declared.entry.Reading.{Reading}
use Rattle.owner_mail.specs.Places.{is_at, placed, placed_at}

abbrev IsWide : ℕ → BoxReading → Type 0
IsWide width r = length r.bytes ≡ width

wide_more : (width : ℕ) (r : Reading) (place : Option ℕ) (rest : List BoxReading) → AreBoxes width rest
    → AreBoxes width (cons_option (placed_at width r place) rest)
wide_more width r None rest wide = wide
wide_more width r (Some place) rest wide = elim (cases_Bool (eqb (length r.bytes) width)) [
  | inl so ↦
      subst (λ (b : Bool). AreBoxes width (cons_option (cond b (Some (record {
        address = place;
        bytes =
            r.bytes;
      })) None) rest))
      (sym so) (All-cons (IsWide width) _ rest (eqb-true (length r.bytes) width so) wide)
  | inr other ↦
      subst (λ (b : Bool). AreBoxes width (cons_option (cond b (Some (record {
        address = place;
        bytes =
            r.bytes;
      })) None) rest))
      (sym other) wide
]

-- each is as wide as the card's boxes
pub readings_are_wide : (card : List ℕ) (width : ℕ) (readings : List Reading)
    → AreBoxes width (filter_map (placed card width) readings)
readings_are_wide card width [] = All-nil (IsWide width)
readings_are_wide card width (r ∷ readings) =
    wide_more width r (position (is_at r.address) card) (filter_map (placed card width) readings)
    (readings_are_wide card width readings)

-- the readings are all placed once none is left
pub found_all : {A : Type 0} (f : A → Reading) (h : Reading → Option BoxReading) (found whole : List
    BoxReading)
    (rest : List A) → length rest < 1 → found ++ filter_map h (map f rest) ≡ whole → found ≡ whole
found_all f h found whole [] few is = sym (append-nil found) ∙ is
found_all f h found whole (x ∷ rest) few is = absurd (omega (arith, few))
