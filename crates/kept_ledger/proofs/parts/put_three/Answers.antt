use Rattle.std.proofs.Common.{◌≡◌, ◌+◌, ◌++◌, List, ℕ, length, take, drop, ◌∙◌, ap, arith}
use Rattle.std.proofs.Math.Seq.{take-append-add, take-append_seam}
use Rattle.kept_ledger.proofs.parts.put_three.Goals as goal

front_three : (xs ys zs more : List ℕ)
    → take (length xs + length ys + length zs) (xs ++ (ys ++ (zs ++ more))) ≡ xs ++ (ys ++ zs)
front_three xs ys zs more =
    let same : length xs + length ys + length zs ≡ length xs + (length ys + length zs) = omega arith in
    ap (λ (n : ℕ). take n (xs ++ (ys ++ (zs ++ more)))) same
    ∙ take-append-add xs (ys ++ (zs ++ more)) (length ys + length zs)
    ∙ ap (λ (l : List ℕ). xs ++ l) (take-append-add ys (zs ++ more) (length zs))
    ∙ ap (λ (l : List ℕ). xs ++ (ys ++ l)) (take-append_seam zs more)

pub returns : goal.returns
returns c =
    cc (
      c.copy_from_slice.ensures.after,
      c.copy_from_slice-2.ensures.after,
      c.copy_from_slice-3.ensures.after,
      front_three c.args.head.now c.args.middle.now c.args.rest.now
          (drop (length c.args.rest.now) c.split_at_mut-inner.result.1.now),
    )
