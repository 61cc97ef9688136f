-- The text of a batch of closings, as a function from its bytes: the batch, or the number of its first bad
-- line.
use Rattle.std.specs.Prelude.{ℕ, ◌+◌, ◌-◌, ◌==◌, if◌then◌else◌, List, [], ◌∷◌, codes, Option, Some, None}
use Rattle.std.specs.Prelude.{Result, Ok, Err}
use Rattle.express_words.specs.declared.audit.Closing.{Closing}
use Rattle.express_texts.specs.LineFields.{◌>>=◌, after, end, seed_of, word_at}
use Rattle.express_texts.specs.Lines.{lines_of}

-- a batch has at most so many pairs
unfoldable pub most_pairs : ℕ
most_pairs = 20000

-- the closings of both servers, write by write
pub record Pairs : Type 0 where
  pub zero : List Closing
  pub one : List Closing

pub record Batch : Type 0 where
  pub seed : List ℕ
  pub pairs : Pairs

-- O T in front, and what follows
unfoldable pub closing_at : List ℕ → Option (Closing × List ℕ)
closing_at bytes = do
  o ← word_at bytes
  rest ← after (codes " ") o.1
  tau ← word_at rest
  Some (record { o = o.0; tau = tau.0 }, tau.1)

-- pair O0 T0 O1 T1
unfoldable pub pair_of : List ℕ → Option (Closing × Closing)
pair_of line = do
  rest ← after (codes "pair ") line
  zero ← closing_at rest
  rest ← after (codes " ") zero.1
  one ← closing_at rest
  _ ← end one.1
  Some (zero.0, one.0)

-- batch 1 SEED
unfoldable pub header_of : List ℕ → Option (List ℕ)
header_of line = after (codes "batch 1 ") line >>= seed_of

-- the pair of line n before those of the lines behind it
abbrev pub pair_then : ℕ → Option (Closing × Closing) → Result Pairs ℕ → Result Pairs ℕ
pair_then n None others = Err n
pair_then n (Some pair) (Ok pairs) = Ok (record { zero = pair.0 ∷ pairs.zero; one = pair.1 ∷ pairs.one })
pair_then n (Some pair) (Err bad) = Err bad

-- The pairs of these lines, the first of which is line n, where there is room for so many.
unfoldable pub pairs_of : ℕ → ℕ → List (List ℕ) → Result Pairs ℕ
pairs_of room n [] = Ok (record { zero = []; one = [] })
pairs_of room n (line ∷ lines) =
    if room == 0 then Err n else pair_then n (pair_of line) (pairs_of (room - 1) (n + 1) lines)

abbrev pub under : List ℕ → Result Pairs ℕ → Result Batch ℕ
under seed (Ok pairs) = Ok (record { seed = seed; pairs = pairs })
under seed (Err bad) = Err bad

abbrev pub header_then : Option (List ℕ) → List (List ℕ) → Result Batch ℕ
header_then None lines = Err 1
header_then (Some seed) lines = under seed (pairs_of most_pairs 2 lines)

-- A missing header is bad at its place.
unfoldable pub batch_of_lines : List (List ℕ) → Result Batch ℕ
batch_of_lines [] = Err 1
batch_of_lines (line ∷ lines) = header_then (header_of line) lines

abbrev pub batch_of : List ℕ → Result Batch ℕ
batch_of text = batch_of_lines (lines_of text)
