-- The letters of a desk.
use Rattle.std.specs.Prelude.{◌≡◌, ◌≤◌, ℕ, ◌+◌, ◌-◌, ◌==◌, ◌||◌, not, if◌then◌else◌, Bool, true, false}
use Rattle.std.specs.Prelude.{List, [], ◌∷◌}
use Rattle.std.specs.Prelude.{◌++◌, count_by, drop, length, take}
use Rattle.std.specs.List.{fold, list_any}
use Rattle.std.specs.Str.{is_utf8}
use Rattle.desk_entries.specs.declared.entry.Entry.{Entry}
use Rattle.desk_entries.specs.declared.entry.Entry.TheVariants.{Read}
use Rattle.desk_entries.specs.declared.entry.Entry.TheVariants.{Shown, Written}
use Rattle.desk_entries.specs.declared.entry.Held.{Held}
use Rattle.desk_entries.specs.declared.entry.Held.TheVariants.{Nothing, Letter, Met}
use Rattle.desk_entries.specs.declared.entry.Reading.{Reading}

abbrev pub holds_id : ℕ → Held → Bool
holds_id id (Letter other text) = other == id
holds_id id Nothing = false
holds_id id Met = false

abbrev pub is_nothing : Held → Bool
is_nothing Nothing = true
is_nothing (Letter id text) = false
is_nothing Met = false

-- the box held something, or is retired
abbrev pub is_telling : Reading → Bool
is_telling r = r.last || not (is_nothing r.held)

-- the reading gave the letter with this id
abbrev pub has_id : ℕ → Reading → Bool
has_id id r = holds_id id r.held

-- a letter with an id that none of these has, or letters that met
abbrev pub is_anew : List Reading → Held → Bool
is_anew told Nothing = false
is_anew told (Letter id text) = not (list_any (has_id id) told)
is_anew told Met = true

-- behind the letters told so far what this entry tells
abbrev pub told_with : List Reading → Entry → List Reading
told_with told (Read r) = if is_anew told r.held then told ++ r ∷ [] else told
told_with told e = told

-- the letters that these entries tell, in order, a letter that came twice once
abbrev pub letters_of : List Entry → List Reading
letters_of entries = fold told_with [] entries

abbrev pub shown_with : ℕ → Entry → ℕ
shown_with shown (Shown count) = count
shown_with shown e = shown

-- how many of the letters were shown: what was noted last
abbrev pub shown_of : List Entry → ℕ
shown_of entries = fold shown_with 0 entries

abbrev pub written_with : ℕ → Entry → ℕ
written_with written (Written count) = count
written_with written e = written

-- how many of the letters were written into files: what was noted last
abbrev pub written_of : List Entry → ℕ
written_of entries = fold written_with 0 entries

-- it is a letter, and its bytes are no text, so that no screen can show it
abbrev pub is_no_text : Held → Bool
is_no_text (Letter id text) = not (is_utf8 text)
is_no_text Nothing = false
is_no_text Met = false

abbrev pub has_no_text : Reading → Bool
has_no_text r = is_no_text r.held

-- of letters of which so many were shown, how many nobody has seen: those that are no text, and those behind
abbrev pub unseen_among : ℕ → List Reading → ℕ
unseen_among shown letters = count_by has_no_text (take shown letters) + length (drop shown letters)

-- how many letters aren't in files, and weren't seen
abbrev pub unseen_of : List Entry → ℕ
unseen_of entries =
    unseen_among (shown_of entries - written_of entries) (drop (written_of entries) (letters_of entries))

-- Where all letters were shown, and each is a text, none is unseen.
abbrev pub ShownAreSeen : List Entry → Type 0
ShownAreSeen entries = length (letters_of entries) ≤ shown_of entries
    → count_by has_no_text (letters_of entries) ≡ 0 → unseen_of entries ≡ 0

-- they aren't one letter: no id is both's
abbrev pub Differ : Reading → Reading → Type 0
Differ a b = (id : ℕ) → has_id id a ≡ true → has_id id b ≡ true → ⊥
