use Rattle.std.proofs.Common.{◌≡◌, ◌<◌, ℕ, false, get_or}
use Rattle.subset_search.proofs.search.clear.Given as goal

abbrev pub invariant-loop-is_chosen : goal.invariant-loop-is_chosen
invariant-loop-is_chosen l = (k : ℕ) → k < l.is_chosen-index → get_or l.chosen k false ≡ false
