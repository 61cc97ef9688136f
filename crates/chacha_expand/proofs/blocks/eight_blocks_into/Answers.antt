use Rattle.std.proofs.Common.{◌≡◌, ℕ, ◌+◌, ◌*◌, refl, sym, ap, ◌∙◌, arith}
use Rattle.std.proofs.lemmas.List.{take_all}
use Rattle.dpf_rules.specs.Expansion.{stream_bytes}
use Rattle.chacha_expand.proofs.StreamLemmas.{stream_more}
use Rattle.chacha_expand.proofs.blocks.eight_blocks_into.Goals as goal

pub loop-j-init : goal.loop-j-init
unfolding stream_bytes
loop-j-init c = refl

pub loop-j-preserved : goal.loop-j-preserved
loop-j-preserved c =
    let key = c.args.key.now in
    let stream = c.args.stream in
    let block = c.args.block in
    let j = c.loop-j.j in
    let place : 4 * (16 * (block + j)) ≡ 64 * block + 64 * j = omega arith in
    let more : 64 * (j + 1) ≡ 64 * j + 64 = omega arith in
    let row : c.copy_from_slice.new.self ≡ stream_bytes key stream (64 * block + 64 * j) 64 =
    c.copy_from_slice.ensures.after
    ∙ c.block_row.ensures key stream (16 * (block + j)) (c.halves_of-halves.ensures j c.loop-j-test.true)
    ∙ ap (λ (n : ℕ). stream_bytes key stream n 64) place in
    rw more (stream_more key stream (64 * block) (64 * j) 64 _ c.loop-j.out c.copy_from_slice.new.self c.loop-j.invariant row (omega arith))

pub returns : goal.returns
returns c =
    let full : c.loop-j.j ≡ 8 = omega arith in
    sym (take_all 512 c.loop-j.out (omega arith)) ∙ rw full at c.loop-j.invariant
