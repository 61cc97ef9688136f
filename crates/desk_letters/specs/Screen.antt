-- The text of a letter for a screen: what is hidden is spelled out, and each line is set off by two spaces.
use Rattle.std.specs.Prelude.{◌≡◌, ◌≢◌, ℕ, ◌+◌, ◌/◌, ◌%◌, ◌==◌, if◌then◌else◌, false, List, [], ◌∷◌, ◌++◌}
use Rattle.std.specs.Prelude.{◌⊎◌, All, encode_utf8_all, length, take, drop, slice_index}
use Rattle.std.specs.List.{flat_map}
use Rattle.std.specs.Char.{is_control, digit_char}
use Rattle.std.specs.Char.Escape.{escape_unicode}
use Rattle.std.specs.Str.{chars}
use Rattle.desk_letters.specs.Hidden.{is_hidden}

-- \xNN of a control character, and \u{N..} of any other, in hexadecimal
abbrev pub spelled_out : ℕ → List ℕ
spelled_out c =
    if is_control c then 92 ∷ (120 ∷ (digit_char (c / 16) ∷ (digit_char (c % 16) ∷ [])))
    else escape_unicode c

abbrev pub shown : ℕ → List ℕ
shown c = if is_hidden c then spelled_out c else c ∷ []

abbrev pub margin : List ℕ
margin = 32 ∷ (32 ∷ [])

-- a byte, and behind a newline the margin of the line that begins there
abbrev pub with_margin : ℕ → List ℕ
with_margin byte = if byte == 10 then byte ∷ margin else byte ∷ []

-- a text with two spaces before each of its lines
unfoldable pub set_off : List ℕ → List ℕ
set_off text = margin ++ flat_map with_margin text

-- the text's characters as they are shown, with each line set off
unfoldable pub shown_text : List ℕ → List ℕ
shown_text text = set_off (encode_utf8_all (flat_map shown (chars text)))

-- ---- what can be relied on

-- no character of a text is hidden
abbrev pub ShowsAll : List ℕ → Type 0
ShowsAll text = All (λ c. is_hidden c ≡ false) (chars text)

-- a line of the text begins here
abbrev pub BeginsLine : List ℕ → ℕ → Type 0
BeginsLine text i = (i ≡ 0) ⊎ ((j : ℕ) × (i ≡ j + 1) × (slice_index text j ≡ 10))

-- Each line begins with two spaces.
abbrev pub IsSetOff : List ℕ → Type 0
IsSetOff text = (i : ℕ) → BeginsLine text i → take 2 (drop i text) ≡ margin

-- a line of the text, its first one or one behind a newline, begins with these bytes
pub record HasLine (text line : List ℕ) : Type 0 where
  pub at : ℕ
  pub begins : BeginsLine text at
  pub stands : take (length line) (drop at text) ≡ line

-- No line is as one that begins with another character than a space.
abbrev pub ForgesNone : List ℕ → Type 0
ForgesNone text = (first : ℕ) (rest : List ℕ) → first ≢ 32 → HasLine text (first ∷ rest) → ⊥
