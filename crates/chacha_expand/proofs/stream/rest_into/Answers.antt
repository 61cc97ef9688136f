use Rattle.std.proofs.Common.{◌≡◌, ◌*◌, take, length, sym, ap, ◌∙◌, arith}
use Rattle.std.proofs.lemmas.Grind.{common_steps}
use Rattle.std.proofs.lemmas.List.{nil_from_length}
use Rattle.chacha_expand.proofs.StreamLemmas.{no_bytes, stream_front}
use Rattle.chacha_expand.proofs.stream.rest_into.Goals as goal

pub returns-else-out-le-FEW_BYTES : goal.returns-else-out-le-FEW_BYTES
returns-else-out-le-FEW_BYTES c =
    let n = length c.args.out.now in
    c.copy_from_slice.ensures.after
    ∙ ap (take n) c.eight_blocks_into.ensures
    ∙ stream_front c.args.key.now c.args.stream (64 * c.args.block) n 512 (omega arith)

pub returns-then-is_empty : goal.returns-then-is_empty
returns-then-is_empty c =
    let none : length c.args.out.now ≡ 0 = grind (arith, common_steps) in
    nil_from_length c.args.out.now none
    ∙ rw none (sym (no_bytes c.args.key.now c.args.stream (64 * c.args.block)))
