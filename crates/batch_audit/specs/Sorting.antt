-- Which pairs a sort rejects, and how many ranges it judges.
use Rattle.std.specs.Prelude.{◌≡◌, ℕ, ◌+◌, ◌-◌, ◌*◌, ◌/◌, ◌^◌, ◌<◌, ◌≤◌, ◌⊎◌, Bool, true, false, List, []}
use Rattle.std.specs.Prelude.{◌∷◌, length, slice_index_or, All, take, drop}
use Rattle.express_words.specs.declared.audit.Closing.{Closing}
use Rattle.audit_rules.specs.Audit.{accepts}
use Rattle.batch_audit.specs.Batch.{count_bad, BatchPasses, rho_at}

-- A range of pairs at whose start n ranges were judged, and at whose end m. Where its batch passes, all its
-- pairs pass. Else one pair alone is rejected, and a longer range is worked as its first half, rounded down,
-- and then the rest.
pub data Sorted (seed : List ℕ) : List Closing → List Closing → List Bool → ℕ → ℕ → Type 0 where
  empty : {zero one : List Closing} {rejected : List Bool} {n m : ℕ} →
      length zero ≡ 0 → m ≡ n → Sorted seed zero one rejected n m
  passed : {zero one : List Closing} {rejected : List Bool} {n m : ℕ} →
      0 < length zero → BatchPasses zero one (rho_at seed n) → All (λ r. r ≡ false) rejected → m ≡ n + 1 →
      Sorted seed zero one rejected n m
  alone : {zero one : List Closing} {rejected : List Bool} {n m : ℕ} →
      ¬ BatchPasses zero one (rho_at seed n) → length zero ≡ 1 → rejected ≡ true ∷ [] → m ≡ n + 1 →
      Sorted seed zero one rejected n m
  split : {zero one : List Closing} {rejected : List Bool} {n m : ℕ} (half middle : ℕ) →
      ¬ BatchPasses zero one (rho_at seed n) → 1 < length zero → half ≡ length zero / 2 →
      Sorted seed (take half zero) (take half one) (take half rejected) (n + 1) middle →
      Sorted seed (drop half zero) (drop half one) (drop half rejected) middle m →
      Sorted seed zero one rejected n m

-- whether pair i is good
abbrev pub good_at : List Closing → List Closing → ℕ → Closing → Bool
good_at zero one i c = accepts (slice_index_or zero i c) (slice_index_or one i c)

-- every rejected pair isn't good
abbrev pub RejectedAreBad : List Closing → List Closing → List Bool → Type 0
RejectedAreBad zero one rejected =
    (i : ℕ) (c : Closing) (r : Bool) → i < length zero → slice_index_or rejected i r ≡ true →
    good_at zero one i c ≡ false

-- pair i stands in a judged range that passes though one of its pairs isn't good; n as in Sorted
pub data Missed (seed : List ℕ) : List Closing → List Closing → List Bool → ℕ → ℕ → Type 0 where
  here : {zero one : List Closing} {rejected : List Bool} {n i : ℕ} →
      i < length zero → BatchPasses zero one (rho_at seed n) → 0 < count_bad zero one →
      Missed seed zero one rejected n i
  in_left : {zero one : List Closing} {rejected : List Bool} {n i : ℕ} (half : ℕ) →
      ¬ BatchPasses zero one (rho_at seed n) → 1 < length zero → half ≡ length zero / 2 → i < half →
      Missed seed (take half zero) (take half one) (take half rejected) (n + 1) i →
      Missed seed zero one rejected n i
  in_right : {zero one : List Closing} {rejected : List Bool} {n i : ℕ} (half middle : ℕ) →
      ¬ BatchPasses zero one (rho_at seed n) → 1 < length zero → half ≡ length zero / 2 → half ≤ i →
      Sorted seed (take half zero) (take half one) (take half rejected) (n + 1) middle →
      Missed seed (drop half zero) (drop half one) (drop half rejected) middle (i - half) →
      Missed seed zero one rejected n i

-- every pair that isn't rejected is good, or it was missed
abbrev pub OthersAreGoodOrMissed : List ℕ → List Closing → List Closing → List Bool → ℕ → Type 0
OthersAreGoodOrMissed seed zero one rejected n =
    (i : ℕ) (c : Closing) (r : Bool) → i < length zero → slice_index_or rejected i r ≡ false →
    (good_at zero one i c ≡ true) ⊎ Missed seed zero one rejected n i

-- of k pairs, m of which aren't good, at most 1 + 2·m·c ranges are judged where k is at most 2^c
abbrev pub FewAreJudged : List Closing → List Closing → ℕ → Type 0
FewAreJudged zero one judged =
    (c : ℕ) → length zero ≤ 2 ^ c → judged ≤ 1 + 2 * (count_bad zero one * c)

-- two sorts of the same pairs with the same seed reject the same pairs and judge as many ranges
abbrev pub SortsAreOne : Type 0
SortsAreOne =
    (seed : List ℕ) (zero one : List Closing) (r r' : List Bool) (n m m' : ℕ) →
    length r ≡ length zero → length r' ≡ length zero →
    Sorted seed zero one r n m → Sorted seed zero one r' n m' → (r ≡ r') × (m ≡ m')
