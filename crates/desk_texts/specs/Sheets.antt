-- A sheet as a function from its lines: what it says, or its first bad line.
use Rattle.std.specs.Prelude.{ℕ, zero, suc, ◌+◌, ◌==◌, if◌then◌else◌, Bool, List, [], ◌∷◌, ◌++◌, codes}
use Rattle.std.specs.Prelude.{Option, Some, None, Result}
use Rattle.std.specs.Prelude.{Ok}
use Rattle.std.specs.List.{list_any}
use Rattle.express_texts.specs.GameLines.{◌>>=◌, found_or}
use Rattle.desk_texts.specs.declared.sheet.Head.{Head}
use Rattle.desk_texts.specs.declared.sheet.Head.TheVariants.{Card, Pair}
use Rattle.desk_texts.specs.declared.sheet.Sheet.{Sheet}
use Rattle.desk_texts.specs.Fields.{head_of, place_of, address_of}
use Rattle.desk_texts.specs.Lines.{content_at, lines_before, from_first}

-- what is read of the line at a place, behind those contents; the contents with it, and the lines behind it
unfoldable pub line_as : {A : Type 0} → ℕ → List ℕ → (List ℕ → Option A) → List (List ℕ)
    → Result (A × List ℕ × List (List ℕ)) ℕ
line_as place said read lines =
    content_at place said lines >>= (λ r. found_or place (read r.0) (λ a. Ok (a, r.1, r.2)))

-- how many addresses a sheet of this head has
abbrev pub count_of : Head → ℕ
count_of (Card h) = h.addresses
count_of (Pair h) = 0

abbrev pub is_among : ℕ → List ℕ → Bool
is_among address addresses = list_any (λ a. a == address) addresses

-- an address that stands on none of the lines before
abbrev pub if_new : List ℕ → Option ℕ → Option ℕ
if_new before None = None
if_new before (Some address) = if is_among address before then None else Some address

unfoldable pub new_address : List ℕ → List ℕ → Option ℕ
new_address before content = if_new before (address_of content)

-- so many more addresses, behind those; what stands behind the last isn't looked at
unfoldable pub addresses_at : ℕ → ℕ → List ℕ → List ℕ → List (List ℕ) → Result (List ℕ) ℕ
addresses_at zero place said before lines = Ok before
addresses_at (suc room) place said before lines =
    line_as place said (new_address before) lines
    >>= (λ r. addresses_at room (place + 1) r.1 (before ++ r.0 ∷ []) r.2)

-- a sheet whose first line has this number
unfoldable pub sheet_at : ℕ → List (List ℕ) → Result Sheet ℕ
sheet_at place lines = do
  head ← line_as place [] head_of lines
  leader ← line_as (place + 1) head.1 (place_of (codes "leader ")) head.2
  helper ← line_as (place + 2) leader.1 (place_of (codes "helper ")) leader.2
  addresses ← addresses_at (count_of head.0) (place + 3) helper.1 [] helper.2
  Ok (record { head = head.0; leader = leader.0; helper = helper.0; addresses = addresses })

-- the first of these lines that begins a sheet is its first line
unfoldable pub sheet_of : List (List ℕ) → Result Sheet ℕ
sheet_of lines = sheet_at (lines_before lines + 1) (from_first lines)
