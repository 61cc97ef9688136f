-- Many writes judged by one closing of each server: closings are summed with the powers of a random field
-- value rho. Pair i is closing i of server 0 and closing i of server 1; it is good where both together accept
-- (`accepts`), that is, where both of its sums are 0. So batches are verified by a random linear combination
-- of what they hold.
use Rattle.std.specs.Prelude.{◌≡◌, ◌≢◌, ℕ, ◌+◌, ◌^◌, ◌<◌, ◌≤◌, if◌then◌else◌, true, List, [], ◌∷◌, length}
use Rattle.std.specs.Prelude.{take, All, AllPairs}
use Rattle.dpf_rules.specs.Bytes.{number_of}
use Rattle.dpf_rules.specs.Expansion.{draw32}
use Rattle.express_words.specs.declared.audit.Closing.{Closing}
use Rattle.audit_rules.specs.Audit.{value, accepts}

abbrev pub os : List Closing → List ℕ
os [] = []
os (c ∷ cs) = c.o ∷ os cs

abbrev pub taus : List Closing → List ℕ
taus [] = []
taus (c ∷ cs) = c.tau ∷ taus cs

-- the sums of rho^i·o_i and of rho^i·tau_i, i from 0
abbrev pub batch : List Closing → ℕ → Closing
batch closings rho = record { o = value (os closings) rho; tau = value (taus closings) rho }

-- both servers accept their batches
abbrev pub BatchPasses : List Closing → List Closing → ℕ → Type 0
BatchPasses zero one rho = accepts (batch zero rho) (batch one rho) ≡ true

-- how many pairs aren't good
abbrev pub count_bad : List Closing → List Closing → ℕ
count_bad [] one = 0
count_bad (c ∷ zero) [] = 0
count_bad (c ∷ zero) (d ∷ one) = (if accepts c d then 0 else 1) + count_bad zero one

-- the value of rho where so many ranges were judged before
abbrev pub rho_at : List ℕ → ℕ → ℕ
rho_at seed judged = number_of (take 16 (draw32 seed judged))

-- the words of the closings are numbers of the field
pub record AreInField (closings : List Closing) : Type 0 where
  pub o : All (λ n. n < 2 ^ 128) (os closings)
  pub tau : All (λ n. n < 2 ^ 128) (taus closings)

-- Where one of k pairs isn't good, at most k - 1 distinct values of rho let their batch pass.
abbrev pub FewValuesPass : Type 0
FewValuesPass =
    (zero one : List Closing) (values : List ℕ) →
    AreInField zero → AreInField one → All (λ n. n < 2 ^ 128) values → length one ≡ length zero →
    0 < count_bad zero one → AllPairs (λ p q. p ≢ q) values → All (BatchPasses zero one) values →
    length values + 1 ≤ length zero
