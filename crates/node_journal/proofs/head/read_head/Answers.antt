use Rattle.std.proofs.Common.{◌≡◌, min, [], ◌∷◌, List, ℕ, length, drop, get_or, ap, sym, ◌∙◌, arith, length-drop}
use Rattle.std.specs.Int.{w32, to_be_bytes}
use Rattle.node_journal.proofs.Found.{head_bytes}
use Rattle.node_journal.proofs.head.read_head.Goals as goal

pub returns-else-read-lt-HEAD_LEN-clause-spelled : goal.returns-else-read-lt-HEAD_LEN-clause-spelled
returns-else-read-lt-HEAD_LEN-clause-spelled g c n is f read =
    let b = c.in-Ok.ensures.bytes f read in
    let src = drop c.args.end f in
    let size : c.in-Ok.read ≡ min (length src) 5 = omega (arith, b.0, length-drop c.args.end f) in
    let same : c.length_in.result ≡ n = cc in
    head_bytes c.in-Ok.read src size c.if-read-lt-HEAD_LEN.false
    ∙ ap (λ (l : List ℕ). get_or l 1 0 ∷ get_or l 2 0 ∷ get_or l 3 0 ∷ get_or l 4 0 ∷ []) (sym b.1)
    ∙ sym c.length_in.ensures.spelled
    ∙ ap (λ (k : ℕ). to_be_bytes w32 k) same
