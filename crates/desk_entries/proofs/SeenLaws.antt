-- When no letter is unseen.
use Rattle.std.proofs.Common.{◌≡◌, ℕ, zero, suc, ◌+◌, ◌-◌, ◌≤◌, cond, List, [], ◌∷◌, length, take, drop, refl, sym, ◌∙◌, ap, arith, length-drop}
use Rattle.std.specs.Prelude.{count_by}
use Rattle.std.specs.List.{sum_by}
use Rattle.std.proofs.lemmas.List.{take-append-drop}
use Rattle.std.proofs.lemmas.List.Sums.{sum_by-append}
use Rattle.desk_entries.specs.declared.entry.Entry.{Entry}
use Rattle.desk_entries.specs.declared.entry.Reading.{Reading}
use Rattle.desk_entries.specs.Letters.{has_no_text, letters_of, shown_of, unseen_among, unseen_of, written_of}

drop_all : (n : ℕ) (rs : List Reading) → length rs ≤ n → drop n rs ≡ []
drop_all zero [] few = refl
drop_all zero (r ∷ rs) few = absurd (omega (arith, few))
drop_all (suc n) [] few = refl
drop_all (suc n) (r ∷ rs) few = drop_all n rs (omega (arith, few))

abbrev texts_lost : Reading → ℕ
texts_lost r = cond (has_no_text r) 1 0

-- those before a place and those behind it
split : (n : ℕ) (rs : List Reading)
    → count_by has_no_text rs ≡ count_by has_no_text (take n rs) + count_by has_no_text (drop n rs)
split n rs =
    ap (sum_by texts_lost) (sym (take-append-drop n rs)) ∙ sum_by-append texts_lost (take n rs) (drop n rs)

none_among : (shown : ℕ) → unseen_among shown [] ≡ 0
none_among zero = refl
none_among (suc n) = refl

all_among : (shown : ℕ) (rs : List Reading) → length rs ≤ shown → count_by has_no_text rs ≡ 0 → unseen_among shown rs ≡ 0
all_among shown rs all texts =
    let behind : length (drop shown rs) ≡ 0 = ap length (drop_all shown rs all) in
    let before = split shown rs in
    omega (arith, behind, before, texts)

pub seen_written : (entries : List Entry) → length (letters_of entries) ≤ written_of entries → unseen_of entries ≡ 0
seen_written entries all =
    ap (unseen_among (shown_of entries - written_of entries)) (drop_all (written_of entries) (letters_of entries) all)
    ∙ none_among (shown_of entries - written_of entries)

pub seen_shown : (entries : List Entry) → length (letters_of entries) ≤ shown_of entries → count_by has_no_text (letters_of entries) ≡ 0
    → unseen_of entries ≡ 0
seen_shown entries all texts =
    let size = length-drop (written_of entries) (letters_of entries) in
    let fewer = split (written_of entries) (letters_of entries) in
    all_among (shown_of entries - written_of entries) (drop (written_of entries) (letters_of entries)) (omega (arith, size, all)) (omega (arith, fewer, texts))
