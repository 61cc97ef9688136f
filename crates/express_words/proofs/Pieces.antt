use Rattle.std.proofs.Common.{◌≡◌, ℕ, ◌+◌, List, take, drop}
use Rattle.std.proofs.Math.Seq.{take-add}
use Rattle.std.proofs.lemmas.List.{drop-drop}
use Rattle.express_words.specs.Memory.{Supply, advanced}

-- an input that stands at place p of its bytes, and then gives n of them
pub advanced-place : (p n : ℕ) (xs : List ℕ) →
    (let s : Supply = record { given = take (p + n) xs; left = drop (p + n) xs } in s) ≡ advanced n (record { given = take p xs; left = drop p xs })
advanced-place p n xs = rw (take-add p n xs, drop-drop n p xs)
