use Rattle.std.proofs.Common.{◌≡◌, ◌∙◌, sym, ◌+◌, ◌++◌, length, drop, arith}
use Rattle.std.proofs.lemmas.List.{length-take-le, length-append}
use Rattle.dpf_keys.proofs.LevelLemmas.{joined}
use Rattle.write_hiding.specs.Choices.{plain_choice}
use Rattle.write_hiding.proofs.KeyLemmas.{ideal_keys-is}
use Rattle.write_hiding.proofs.part.part_into.Goals as goal

pub slice_bounds-levels_into-end-2 : goal.slice_bounds-levels_into-end-2
slice_bounds-levels_into-end-2 c = sym (length-take-le 2064 c.args.out.now (omega arith))

pub levels_into-end-requires-clause-room : goal.levels_into-end-requires-clause-room
levels_into-end-requires-clause-room c = length-take-le 2064 c.args.out.now (omega arith)

pub returns : goal.returns
returns c =
    let choice = plain_choice c.args.choice.now in
    let message = c.args.aim.now.message.now in
    let front = c.levels_into-end.new.out in
    let rest = drop 2064 c.args.out.now in
    let size : length front ≡ 2064 = c.levels_into-end.auto.out ∙ length-take-le 2064 c.args.out.now (omega arith) in
    let all : length (front ++ rest) ≡ length front + length rest = length-append front rest in
    joined front rest c.last_into.new.out _ size (omega arith)
    ∙ rw (c.levels_into-end.ensures.bytes, c.last_into.ensures, c.levels_into-end.ensures.end, c.as_slice.ensures)
    (ideal_keys-is c.args.aim.now.target message c.args.choice.now.viewer choice.own_root choice.other)
