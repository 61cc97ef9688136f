-- Addresses of which no two are the same.
use Rattle.std.proofs.Common.{◌≡◌, ◌≢◌, ℕ, ◌<◌, ◌≤◌, ◌==◌, cond, ltb, get_or, take, List, [], ◌∷◌, ◌++◌, length, position, Some, None, min, sym, ◌∙◌, arith}
use Rattle.std.proofs.lemmas.Bool.{eqb-false}
use Rattle.std.proofs.lemmas.Bool.Decides.{nat_tests}
use Rattle.std.proofs.lemmas.List.{get_or-take, length-take}
use Rattle.std.proofs.lemmas.List.Quantifiers.{all_pairs_push}
use Rattle.std.proofs.lemmas.List.Sums.{fails_before_first}
use Rattle.box_registry.specs.Boxes.{Differ}

none-below : (n m : ℕ) → cond (ltb n m) (Some n) None ≡ None → m ≤ n
none-below n m h = grind (arith, nat_tests, h)

-- an address that stands nowhere is one more
pub differ-push : (addresses : List ℕ) (address : ℕ) → Differ addresses → position (λ other. other == address) addresses ≡ None → Differ (addresses ++ address ∷ [])
differ-push addresses address differ none =
    all_pairs_push (λ (a b : ℕ). a ≢ b) addresses address differ (λ k d within same.
    eqb-false (get_or addresses k d) address (fails_before_first (λ other. other == address) addresses k d (omega (arith, none-below _ _ none))) same)

pub differ-take : (n : ℕ) (addresses : List ℕ) → Differ addresses → Differ (take n addresses)
differ-take n addresses differ i j d less within same =
    let short : j < min n (length addresses) = omega (arith, length-take n addresses) in
    differ i j d less (omega arith) (sym (get_or-take n addresses i d (omega arith)) ∙ same ∙ get_or-take n addresses j d (omega arith))
