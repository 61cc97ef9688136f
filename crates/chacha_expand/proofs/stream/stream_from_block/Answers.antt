use Rattle.std.proofs.Common.{◌≡◌, ◌∙◌, ap, length, ℕ, ◌+◌, ◌*◌, ◌/◌, ◌%◌, ◌<◌, ◌^◌, refl, arith}
use Rattle.rand_core.proofs.StepsLemmas.{fill_bytes-value}
use Rattle.rand_core.specs.Steps.{fill_via_u32, steps_u32}
use Rattle.rand_chacha.specs.ChaCha.{ChaCha, next_word, key_of}
use Rattle.dpf_rules.specs.Expansion.{stream_bytes}
use Rattle.chacha_expand.proofs.StreamLemmas.{filled_is}
use Rattle.chacha_expand.proofs.stream.stream_from_block.Goals as goal

pub returns : goal.returns
returns c =
    let key = c.args.key.now in
    let block = c.args.block in
    let n = length c.args.out.now in
    let begun : c.set_stream.new.self ≡ record { key = key_of key; stream = c.args.stream; word_pos = 0 } =
    c.set_stream.ensures ∙ ap (λ (g : ChaCha). record g { stream = c.args.stream }) c.from_seed-rng.ensures in
    let word : c.from.result * 16 % 2 ^ 68 ≡ block * 16 = rw c.from.ensures (omega arith) in
    let place : c.set_word_pos.new.self ≡ record { key = key_of key; stream = c.args.stream; word_pos = block * 16 } =
    c.set_word_pos.ensures ∙ rw (begun, word) refl in
    let bytes : 4 * (block * 16) ≡ 64 * block = omega arith in
    let room : block * 16 + (n + 3) / 4 < 2 ^ 68 = omega arith in
    fill_bytes-value (steps_u32 (next_word 10)) n c.set_word_pos.new.self _ _ c.fill_bytes.ensures
    ∙ ap (λ (g : ChaCha). (fill_via_u32 (next_word 10) n g).0) place
    ∙ filled_is key c.args.stream (block * 16) n room
    ∙ ap (λ (x : ℕ). stream_bytes key c.args.stream x n) bytes
