-- Lines with check words.
use Rattle.std.specs.Prelude.{ℕ, ◌+◌, ◌-◌, ◌%◌, if◌then◌else◌, List, [], ◌∷◌, ◌++◌, length, take, drop}
use Rattle.std.specs.Prelude.{slice_index, Option, Some, None}
use Rattle.std.specs.Str.{bytes_eq}
use Rattle.sha2.specs.Sha256.{sha256}

-- the contents so far and one more, each with an LF behind it
abbrev pub with_content : List ℕ → List ℕ → List ℕ
with_content said content = (said ++ content) ++ 10 ∷ []

abbrev pub digit_of : ℕ → ℕ
digit_of byte = 48 + byte % 10

-- a space, and a digit for each of the first five bytes of the SHA-256 digest of the contents so far
unfoldable pub check_word : List ℕ → List ℕ
check_word said =
    let d = sha256 said in
    32 ∷ (digit_of (slice_index d 0) ∷ (digit_of (slice_index d 1) ∷ (digit_of (slice_index d 2)
    ∷ (digit_of (slice_index d 3) ∷ (digit_of (slice_index d 4) ∷ [])))))

-- a content with its check word, behind these contents
abbrev pub checked : List ℕ → List ℕ → List ℕ
checked said content = content ++ check_word (with_content said content)

-- what a line says, where its check word is right
unfoldable pub content_of : List ℕ → List ℕ → Option (List ℕ)
content_of said line =
    let content = take (length line - 6) line in
    if bytes_eq (drop (length line - 6) line) (check_word (with_content said content))
    then Some content
    else None

-- the contents' lines, one after another, behind these contents
abbrev pub checked_lines : List ℕ → List (List ℕ) → List (List ℕ)
checked_lines said [] = []
checked_lines said (content ∷ contents) =
    checked said content ∷ checked_lines (with_content said content) contents
