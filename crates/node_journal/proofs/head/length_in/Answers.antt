use Rattle.std.proofs.Common.{ℕ, suc, zero, ◌<◌, [], ◌∷◌, get_or, refl, arith}
use Rattle.std.proofs.lemmas.Nat.{be_bytes_4}
use Rattle.node_journal.proofs.head.length_in.Goals as goal

four : (a b c d : ℕ) → a < 256 → b < 256 → c < 256 → d < 256 → (i : ℕ) → get_or (a ∷ b ∷ c ∷ d ∷ []) i 0 < 256
four a b c d first second third fourth zero = first
four a b c d first second third fourth (suc zero) = second
four a b c d first second third fourth (suc (suc zero)) = third
four a b c d first second third fourth (suc (suc (suc zero))) = fourth
four a b c d first second third fourth (suc (suc (suc (suc i)))) = omega arith

pub returns-clause-spelled : goal.returns-clause-spelled
returns-clause-spelled c =
    be_bytes_4 (c.args.first ∷ c.args.second ∷ c.args.third ∷ c.args.fourth ∷ []) c.from_be_bytes.result refl
    (four c.args.first c.args.second c.args.third c.args.fourth (omega arith) (omega arith) (omega arith) (omega arith)) c.from_be_bytes.ensures
