-- The first line that begins a sheet.
use Rattle.std.proofs.Common.{◌≡◌, ℕ, zero, suc, ◌+◌, ◌-◌, ◌<◌, ◌≤◌, true, false, List, [], ◌∷◌, Option, Some, None, take, drop, refl, sym, ap, ◌∙◌, arith}
use Rattle.std.specs.Prelude.{position, unwrap_or}
use Rattle.std.specs.List.{position_from}
use Rattle.std.proofs.lemmas.Iterator.Adapters.{position_from-zero}
use Rattle.desk_texts.specs.Lines.{begins_sheet, lines_before, from_first}

-- the first line that begins a sheet, of those that are left of the first 65,536 behind n
abbrev pub first_of : ℕ → List (List ℕ) → Option ℕ
first_of n lines = position_from begins_sheet n (take (65536 - n) lines)

pub from_start : (lines : List (List ℕ)) → first_of 0 lines ≡ position begins_sheet (take 65536 lines)
from_start lines = sym (position_from-zero begins_sheet (take 65536 lines))

pub nothing_left : (n : ℕ) (lines : List (List ℕ)) → lines ≡ [] → first_of n lines ≡ None
nothing_left n lines none = rw none (no_more n (65536 - n))
  where
    no_more : (n room : ℕ) → position_from begins_sheet n (take room []) ≡ None
    no_more n zero = refl
    no_more n (suc room) = refl

pub room_used_up : (n : ℕ) (lines : List (List ℕ)) → 65536 ≤ n → first_of n lines ≡ None
room_used_up n lines end = let none : 65536 - n ≡ 0 = omega (arith, end) in rw none refl

pub at_other : (n : ℕ) (line : List ℕ) (rest lines : List (List ℕ)) → n < 65536 → rest ≡ line ∷ lines
    → begins_sheet line ≡ false → first_of (n + 1) lines ≡ first_of n rest
at_other n line rest lines below is other =
    let one : 65536 - n ≡ suc (65536 - (n + 1)) = omega (arith, below) in rw (is, one, other) refl

at_sheet : (n : ℕ) (line : List ℕ) (rest lines : List (List ℕ)) → n < 65536 → rest ≡ line ∷ lines
    → begins_sheet line ≡ true → first_of n rest ≡ Some n
at_sheet n line rest lines below is begins =
    let one : 65536 - n ≡ suc (65536 - (n + 1)) = omega (arith, below) in rw (is, one, begins) refl

pub drop_next : (lines : List (List ℕ)) (n : ℕ) (line : List ℕ) (rest : List (List ℕ)) → line ∷ rest ≡ drop n lines
    → rest ≡ drop (n + 1) lines
drop_next [] zero line rest h = cc
drop_next [] (suc n) line rest h = cc
drop_next (x ∷ lines) zero line rest h = cc
drop_next (x ∷ lines) (suc n) line rest h =
    drop_next lines n line rest h ∙ ap (λ k. drop k (x ∷ lines)) (let e : suc (n + 1) ≡ suc n + 1 = omega arith in e)

-- ---- what is found

pub nothing_found : (lines : List (List ℕ)) → position begins_sheet (take 65536 lines) ≡ None → 0 ≡ lines_before lines
unfolding lines_before
nothing_found lines h = sym (ap (λ o. unwrap_or o 0) h)

pub line_found : (n : ℕ) (line : List ℕ) (lines rest behind : List (List ℕ)) → n < 65536 → rest ≡ line ∷ behind
    → begins_sheet line ≡ true → first_of n rest ≡ position begins_sheet (take 65536 lines) → n ≡ lines_before lines
unfolding lines_before
line_found n line lines rest behind below is begins h =
    sym (ap (λ o. unwrap_or o 0) (sym h ∙ at_sheet n line rest behind below is begins))

pub found_lines : (n : ℕ) (lines : List (List ℕ)) → n ≡ lines_before lines → drop n lines ≡ from_first lines
found_lines n lines h = ap (λ k. drop k lines) h

pub all_lines : (lines : List (List ℕ)) → 0 ≡ lines_before lines → lines ≡ from_first lines
all_lines lines h = ap (λ k. drop k lines) h
