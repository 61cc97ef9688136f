-- A list that is filled place by place.
use Rattle.std.specs.Prelude.{◌≡◌, ℕ, ◌+◌, ◌<◌, List, [], ◌∷◌, ◌++◌, length}
use Rattle.std.proofs.Common.{sym, ◌∙◌, ap, get_or, set, take, add-one}
use Rattle.std.proofs.Math.Seq.{take-suc, take-suc-set}

-- one place more is as in another list
pub one_more : (xs ys : List ℕ) (i x : ℕ) → i < length xs → i < length ys → take i xs ≡ take i ys → x ≡ get_or ys i 0 → take (i + 1) (set xs i x) ≡ take (i + 1) ys
one_more xs ys i x h k same is =
    ap (λ n. take n (set xs i x)) (add-one i)
    ∙ take-suc-set xs i x h
    ∙ ap (λ front. front ++ (x ∷ [])) same
    ∙ ap (λ v. take i ys ++ (v ∷ [])) is
    ∙ sym (take-suc ys i 0 k)
    ∙ ap (λ n. take n ys) (sym (add-one i))
