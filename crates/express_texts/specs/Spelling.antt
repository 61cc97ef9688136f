-- The grammar of a batch of closings, as relations between what is meant and the bytes that spell it.
use Rattle.std.specs.Prelude.{◌≡◌, ◌⊎◌, ℕ, ◌+◌, ◌≤◌, length, List, [], ◌∷◌, ◌++◌, codes, Ok}
use Rattle.hex.specs.Hex.{decode_sized}
use Rattle.express_words.specs.declared.audit.Closing.{Closing}
use Rattle.express_texts.specs.Batch.{Pairs, Batch, most_pairs}
use Rattle.express_texts.specs.Lines.{AreLines}
use Rattle.express_texts.specs.WordSpelling.{SpellsWord}

-- O T
pub record SpellsClosing (closing : Closing) (text : List ℕ) : Type 0 where
  pub o : List ℕ
  pub tau : List ℕ
  pub o_spelled : SpellsWord closing.o o
  pub tau_spelled : SpellsWord closing.tau tau
  pub text_is : text ≡ o ++ (codes " " ++ tau)

-- pair O0 T0 O1 T1
pub record SpellsPair (zero one : Closing) (line : List ℕ) : Type 0 where
  pub front : List ℕ
  pub back : List ℕ
  pub zero_spelled : SpellsClosing zero front
  pub one_spelled : SpellsClosing one back
  pub line_is : line ≡ codes "pair " ++ (front ++ (codes " " ++ back))

-- batch 1 SEED
abbrev pub SpellsHeader : List ℕ → List ℕ → Type 0
SpellsHeader seed line =
    (digits : List ℕ) × (decode_sized digits 32 ≡ Ok seed) × (line ≡ codes "batch 1 " ++ digits)

-- a pair on each line
abbrev pub SpellsPairs : List Closing → List Closing → List (List ℕ) → Type 0
SpellsPairs [] [] [] = Unit {0}
SpellsPairs (c ∷ zero) (d ∷ one) (line ∷ lines) = SpellsPair c d line × SpellsPairs zero one lines
SpellsPairs [] [] (line ∷ lines) = ⊥
SpellsPairs [] (d ∷ one) lines = ⊥
SpellsPairs (c ∷ zero) [] lines = ⊥
SpellsPairs (c ∷ zero) (d ∷ one) [] = ⊥

-- the text spells the batch
pub record SpellsBatch (batch : Batch) (text : List ℕ) : Type 0 where
  pub first : List ℕ
  pub lines : List (List ℕ)
  pub are : AreLines (first ∷ lines) text
  pub header : SpellsHeader batch.seed first
  pub pairs : SpellsPairs batch.pairs.zero batch.pairs.one lines
  pub few : length batch.pairs.zero ≤ most_pairs

-- no pair stands on the line
abbrev pub IsNoPair : List ℕ → Type 0
IsNoPair line = (zero one : Closing) → SpellsPair zero one line → ⊥

-- Line n is the first of these lines that is bad: pairs stand on all before it, and it is none, or one too
-- many.
pub record IsFirstBadPair (n : ℕ) (lines : List (List ℕ)) : Type 0 where
  pub before : List (List ℕ)
  pub line : List ℕ
  pub behind : List (List ℕ)
  pub split : lines ≡ before ++ line ∷ behind
  pub pairs : Pairs
  pub spelled : SpellsPairs pairs.zero pairs.one before
  pub few : length before ≤ most_pairs
  pub bad : (length before ≡ most_pairs) ⊎ IsNoPair line
  -- the header is line 1
  pub place : n ≡ length before + 2

-- Line n is the first bad one. A header that is missing is bad at its place.
abbrev pub IsFirstBadOf : ℕ → List (List ℕ) → Type 0
IsFirstBadOf n [] = n ≡ 1
IsFirstBadOf n (first ∷ lines) =
    ((n ≡ 1) × ((seed : List ℕ) → SpellsHeader seed first → ⊥))
    ⊎ ((seed : List ℕ) × SpellsHeader seed first × IsFirstBadPair n lines)

abbrev pub IsFirstBadLine : ℕ → List ℕ → Type 0
IsFirstBadLine n text = (lines : List (List ℕ)) × AreLines lines text × IsFirstBadOf n lines
