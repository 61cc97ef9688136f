use Rattle.std.proofs.Common.{◌≡◌, ℕ, ◌+◌, ◌-◌, ◌*◌, ◌/◌, length, refl, ap, ap₂, ◌∙◌, arith, take, drop}
use Rattle.std.proofs.lemmas.List.{length-drop, length-take-le}
use Rattle.dpf_rules.specs.Expansion.{stream_bytes}
use Rattle.chacha_expand.proofs.StreamLemmas.{stream_more, stream_end}
use Rattle.chacha_expand.proofs.stream.stream_into.Goals as goal

pub loop-group-init : goal.loop-group-init
unfolding stream_bytes
loop-group-init c = refl

pub loop-group-preserved : goal.loop-group-preserved
loop-group-preserved c =
    let key = c.args.key.now in
    let stream = c.args.stream in
    let group = c.loop-group.group in
    let place : 64 * (8 * group) ≡ 0 + 512 * group = omega arith in
    let more : 512 * (group + 1) ≡ 512 * group + 512 = omega arith in
    let wrote : c.eight_blocks_into.new.out ≡ stream_bytes key stream (0 + 512 * group) 512 =
    c.eight_blocks_into.ensures ∙ ap (λ (n : ℕ). stream_bytes key stream n 512) place in
    rw more (stream_more key stream 0 (512 * group) 512 _ c.loop-group.out c.eight_blocks_into.new.out c.loop-group.invariant wrote (omega arith))

pub returns : goal.returns
returns c =
    let key = c.args.key.now in
    let stream = c.args.stream in
    let n = length c.args.out.now in
    let whole = n / 512 in
    let rest = n - 512 * whole in
    let full : c.loop-group.group ≡ whole = omega arith in
    let place : 64 * (8 * whole) ≡ 0 + 512 * whole = omega arith in
    let behind = drop (512 * whole) c.loop-group.out in
    let long : length behind ≡ rest = omega (arith, length-drop (512 * whole) c.loop-group.out) in
    let size : length (take (length c.loop-group.out - 512 * whole) behind) ≡ rest =
    length-take-le (length c.loop-group.out - 512 * whole) behind (omega arith) ∙ omega arith in
    let all : 512 * whole + rest ≡ n = omega arith in
    let wrote : c.rest_into.new.out ≡ stream_bytes key stream (0 + 512 * whole) rest =
    c.rest_into.ensures ∙ ap₂ (stream_bytes key stream) place size in
    stream_end key stream 0 (512 * whole) rest _ c.loop-group.out c.rest_into.new.out (rw full at c.loop-group.invariant) wrote (omega arith)
    ∙ ap (stream_bytes key stream 0) all
