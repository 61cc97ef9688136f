-- Steps place by place.
use Rattle.std.proofs.Common.{◌≡◌, ℕ, ◌<◌, ◌≤◌, arith, subst}
use Rattle.desk_send.specs.Places.{EachPlace, next, start}

pub each_as : {S : Type 0} (Step : ℕ → S → S → Type 0) (old new : S) (m n : ℕ) → m ≡ n
    → EachPlace Step old m new → EachPlace Step old n new
each_as Step old new m n is each = subst (λ (k : ℕ). EachPlace Step old k new) is each

-- behind the last place
pub each_all : {S : Type 0} (Step : ℕ → S → S → Type 0) (old new : S) (m n : ℕ) → m ≤ n → n ≤ m
    → EachPlace Step old m new → EachPlace Step old n new
each_all Step old new m n most least each = each_as Step old new m n (omega arith) each

-- a step of one kind at each of these places is one of another
pub each_map : {S : Type 0} (P Q : ℕ → S → S → Type 0) (old : S) (n : ℕ) (new : S)
    → ((k : ℕ) → k < n → (a b : S) → P k a b → Q k a b) → EachPlace P old n new → EachPlace Q old n new
each_map P Q old _ _ f start = start
each_map P Q old _ _ f (next n mid new each step) =
    next n mid new (each_map P Q old n mid (λ k less. f k (omega (arith, less))) each)
    (f n (omega arith) mid new step)
