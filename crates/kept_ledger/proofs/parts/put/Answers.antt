use Rattle.std.proofs.Common.{◌≡◌, ◌+◌, ◌++◌, List, ℕ, length, take, drop, ◌∙◌, ap}
use Rattle.std.proofs.Math.Seq.{take-append-add, take-append_seam}
use Rattle.kept_ledger.proofs.parts.put.Goals as goal

front_two : (xs ys zs : List ℕ) → take (length xs + length ys) (xs ++ (ys ++ zs)) ≡ xs ++ ys
front_two xs ys zs = take-append-add xs (ys ++ zs) (length ys)
    ∙ ap (λ (l : List ℕ). xs ++ l) (take-append_seam ys zs)

pub returns : goal.returns
returns c =
    let rest = c.args.rest.now in
    cc (
      c.copy_from_slice.ensures.after,
      c.copy_from_slice-2.ensures.after,
      front_two c.args.head.now rest
          (drop (length rest) c.split_at_mut-front.result.1.now),
    )
