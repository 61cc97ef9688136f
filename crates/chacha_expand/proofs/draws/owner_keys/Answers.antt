use Rattle.std.proofs.Common.{◌∙◌, ap, ℕ, List, take, drop, refl, arith}
use Rattle.dpf_rules.specs.Expansion.{stream_bytes}
use Rattle.chacha_expand.proofs.StreamLemmas.{stream_slice, stream_front}
use Rattle.chacha_expand.proofs.draws.owner_keys.Goals as goal

pub returns-clause-zero : goal.returns-clause-zero
returns-clause-zero c =
    c.key_at.ensures
    ∙ ap (take 32) (c.stream_into.ensures ∙ ap (λ (n : ℕ). stream_bytes c.args.seed.now n 0 64) c.from.ensures)
    ∙ stream_front c.args.seed.now c.args.serial 0 32 64 (omega arith)

pub returns-clause-one : goal.returns-clause-one
returns-clause-one c =
    c.key_at-2.ensures
    ∙ ap (λ (xs : List ℕ). take 32 (drop 32 xs)) (c.stream_into.ensures ∙ ap (λ (n : ℕ). stream_bytes c.args.seed.now n 0 64) c.from.ensures)
    ∙ stream_slice c.args.seed.now c.args.serial 0 32 32 64 32 refl (omega arith)
