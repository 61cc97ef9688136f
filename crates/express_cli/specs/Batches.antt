-- The text that a batch writes: which pairs of closings are rejected, and how many ranges were judged.
use Rattle.std.specs.Prelude.{◌≡◌, ℕ, ◌+◌, Bool, true, false, not, List, [], ◌∷◌, ◌++◌, length, codes}
use Rattle.std.specs.Prelude.{count_by}
use Rattle.std.specs.Fmt.{decimal}
use Rattle.batch_audit.specs.Sorting.{Sorted, RejectedAreBad, OthersAreGoodOrMissed, FewAreJudged}
use Rattle.express_texts.specs.Batch.{Batch}

-- what a sort of all pairs says of each, and how many ranges it judges
pub record SortsOut (batch : Batch) (rejected : List Bool) (judged : ℕ) : Type 0 where
  pub size : length rejected ≡ length batch.pairs.zero
  pub sorted : Sorted batch.seed batch.pairs.zero batch.pairs.one rejected 0 judged
  pub bad : RejectedAreBad batch.pairs.zero batch.pairs.one rejected
  pub others : OthersAreGoodOrMissed batch.seed batch.pairs.zero batch.pairs.one rejected 0
  pub few : FewAreJudged batch.pairs.zero batch.pairs.one judged

-- a line for each rejected pair, in order; the first pair is pair n
abbrev pub rejected_lines : ℕ → List Bool → List ℕ
rejected_lines n [] = []
rejected_lines n (true ∷ others) =
    codes "rejected " ++ (decimal n ++ (codes "\n" ++ rejected_lines (n + 1) others))
rejected_lines n (false ∷ others) = rejected_lines (n + 1) others

-- the rejected pairs, how many are accepted, and how many ranges were judged
unfoldable pub batch_text : List Bool → ℕ → List ℕ
batch_text rejected judged =
    rejected_lines 0 rejected
    ++ (codes "accepted " ++ (decimal (count_by not rejected)
    ++ (codes "\njudged " ++ (decimal judged ++ codes "\nend\n"))))

-- the text of the batch's sort
abbrev pub IsBatchText : Batch → List ℕ → Type 0
IsBatchText batch text =
    (rejected : List Bool) × (judged : ℕ) × SortsOut batch rejected judged
    × (text ≡ batch_text rejected judged)
