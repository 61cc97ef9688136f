use Rattle.std.proofs.Common.{◌∙◌, ap, ℕ, ◌+◌, ◌*◌, ◌/◌, ◌%◌, ◌^◌, List, take, drop, refl, arith}
use Rattle.dpf_rules.specs.Bytes.{value_in}
use Rattle.chacha_expand.proofs.StreamLemmas.{stream_slice, stream_front}
use Rattle.chacha_expand.proofs.draws.challenge.Goals as goal

pub returns-clause-r : goal.returns-clause-r
returns-clause-r c =
    let low = c.args.address % 2 ^ 64 in
    let base = 64 * (c.args.address / 2 ^ 64) in
    c.read_number.ensures
    ∙ ap (λ (xs : List ℕ). value_in 256 (take 16 xs)) c.stream_from_block.ensures
    ∙ ap (value_in 256) (stream_front c.args.ckey.now low base 16 32 (omega arith))

pub returns-clause-s : goal.returns-clause-s
returns-clause-s c =
    let low = c.args.address % 2 ^ 64 in
    let base = 64 * (c.args.address / 2 ^ 64) in
    c.read_number-2.ensures
    ∙ ap (λ (xs : List ℕ). value_in 256 (take 16 (drop 16 xs))) c.stream_from_block.ensures
    ∙ ap (value_in 256) (stream_slice c.args.ckey.now low base 16 16 32 (base + 16) refl (omega arith))
