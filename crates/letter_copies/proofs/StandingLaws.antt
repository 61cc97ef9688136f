-- The first copy that waits.
use Rattle.std.proofs.Common.{◌≡◌, ℕ, List, position, get_or, Some, true, refl, ap, ◌∙◌}
use Rattle.std.specs.Prelude.{slice_get}
use Rattle.std.proofs.lemmas.List.Quantifiers.{position-Some}
use Rattle.std.proofs.lemmas.Option.{slice_get-get_or}
use Rattle.letter_copies.specs.declared.standing.Standing.{Standing}
use Rattle.letter_copies.specs.declared.standing.Standing.TheVariants.{Waits, Written, NotWritten, Unknown}
use Rattle.letter_copies.specs.Copies.{is_waiting}

waits : (s : Standing) → is_waiting s ≡ true → (further : ℕ) × (s ≡ Waits further)
waits (Waits further) h = (further, refl)
waits Written h = cc
waits NotWritten h = cc
waits Unknown h = cc

-- where the first copy that waits is found, a copy waits there
pub found_waits : (standings : List Standing) (copy : ℕ) → position is_waiting standings ≡ Some copy
    → (further : ℕ) × (slice_get standings copy ≡ Some (Waits further))
found_waits standings copy found =
    let first = position-Some is_waiting standings copy Unknown found in
    let is = waits (get_or standings copy Unknown) first.1 in
    (is.0, slice_get-get_or standings copy Unknown first.0 ∙ ap Some is.1)
