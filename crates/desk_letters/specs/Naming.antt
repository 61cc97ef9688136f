-- By what a letter is named in a line, between quotation marks.
use Rattle.std.specs.Prelude.{◌≡◌, ◌≢◌, ◌≤◌, ℕ, ◌==◌, ◌&&◌, ◌||◌, if◌then◌else◌, nat_lt, false}
use Rattle.std.specs.Prelude.{List, [], ◌++◌, All, codes, encode_utf8_all, length, map, take}
use Rattle.std.specs.Fmt.{decimal}
use Rattle.std.specs.Str.{chars, is_utf8, trim}
use Rattle.desk_letters.specs.Hidden.{is_hidden}

-- a character as it stands in a line: a space for a tab, a newline and what is hidden, and ' for "
abbrev pub in_line : ℕ → ℕ
in_line c = if c == 9 || c == 10 || is_hidden c then 32 else if c == 34 then 39 else c

-- a text in one line, without the space around it
unfoldable pub one_line : List ℕ → List ℕ
one_line text = trim (encode_utf8_all (map in_line (chars text)))

-- the first 40 characters, with two dots behind them where there are more
unfoldable pub cut : List ℕ → List ℕ
cut line =
    encode_utf8_all (take 40 (chars line))
    ++ (if nat_lt 40 (length (chars line)) then codes ".." else [])

-- what stands for a text of so many bytes that has no words
unfoldable pub no_words : ℕ → List ℕ
no_words count = decimal count ++ codes " bytes that are no text"

-- the first words of a text
unfoldable pub first_words : List ℕ → List ℕ
first_words text =
    if is_utf8 text && nat_lt 0 (length (one_line text)) then cut (one_line text) else no_words (length text)

-- These fit between quotation marks in a line: a few characters, of which none is hidden or breaks it off.
pub record IsName (words : List ℕ) : Type 0 where
  pub some : 1 ≤ length (chars words)
  pub most : length (chars words) ≤ 43
  pub shown : All (λ c. is_hidden c ≡ false) (chars words)
  pub one_line : All (λ c. (c ≢ 9) × (c ≢ 10) × (c ≢ 34)) (chars words)
