use Rattle.std.proofs.Common.{◌≡◌, ◌∙◌, sym, ◌+◌, ◌++◌, length, drop, arith}
use Rattle.std.proofs.lemmas.List.{length-take-le, length-append}
use Rattle.dpf_rules.proofs.KeysLemmas.{honest_keys-is}
use Rattle.dpf_keys.proofs.LevelLemmas.{joined}
use Rattle.dpf_keys.proofs.generation.keys_into.Goals as goal

pub slice_bounds-levels_into-end-2 : goal.slice_bounds-levels_into-end-2
slice_bounds-levels_into-end-2 c = sym (length-take-le 2064 c.args.out.now (omega arith))

pub levels_into-end0-requires : goal.levels_into-end0-requires
levels_into-end0-requires c = length-take-le 2064 c.args.out.now (omega arith)

pub returns : goal.returns
returns c =
    let message = c.args.message.now in
    let front = c.levels_into-end0.new.out in
    let rest = drop 2064 c.args.out.now in
    let size : length front ≡ 2064 = c.levels_into-end0.auto.out ∙ length-take-le 2064 c.args.out.now (omega arith) in
    let all : length (front ++ rest) ≡ length front + length rest = length-append front rest in
    joined front rest c.last_into.new.out _ size (omega arith)
    ∙ rw (c.levels_into-end0.ensures.bytes, c.last_into.ensures, c.levels_into-end0.ensures.ends) (honest_keys-is c.args.target message c.args.root0 c.args.root1)
