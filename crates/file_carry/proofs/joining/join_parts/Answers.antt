use Rattle.std.proofs.Common.{◌≡◌, ◌∙◌, ◌+◌, ℕ, List, length, max, ap, sym, arith}
use Rattle.std.specs.Prelude.{Ok}
use Rattle.std.proofs.lemmas.List.{append-nil}
use Rattle.file_carry.specs.Boxes.{before}
use Rattle.file_carry.proofs.RowLaws.{left_at, walk_on, walk_fails, walk_ends, walk_done, starts_empty}
use Rattle.file_carry.proofs.joining.join_parts.Goals as goal

pub loop-index-init : goal.loop-index-init
loop-index-init c = record {
  walk = starts_empty c.args.id c.args.count (max 1 c.args.count) c.args.width c.args.taken c.args.bytes.now c.args.file.now.items c.requires.empty;
  len = (let none : length c.args.file.now.items ≡ 0 = ap length c.requires.empty in omega (arith, none));
  capacity = omega arith;
}

pub returns-then-index-taken-clause-answer : goal.returns-then-index-taken-clause-answer
returns-then-index-taken-clause-answer c =
    c.loop-index.invariant.walk ∙ walk_ends c.args.id c.args.count (max 1 c.args.count) c.args.width c.args.taken c.loop-index.index c.args.bytes.now c.loop-index.file.items (omega (arith, c.max-total.ensures, c.from.ensures, c.loop-index-test.true)) (omega arith)

pub returns-then-not-is_part-clause-answer : goal.returns-then-not-is_part-clause-answer
returns-then-not-is_part-clause-answer c =
    c.loop-index.invariant.walk
    ∙ walk_fails c.args.id c.args.count (max 1 c.args.count) c.args.width c.args.taken c.loop-index.index c.args.bytes.now c.loop-index.file.items c.row-part.result.now (omega (arith, c.max-total.ensures, c.from.ensures, c.loop-index-test.true)) (omega arith) c.row-part.ensures.value (sym c.is_part.ensures.is ∙ c.if-not-is_part.true)

pub loop-index-preserved : goal.loop-index-preserved
loop-index-preserved c = record {
  walk =
      c.loop-index.invariant.walk
      ∙ walk_on c.args.id c.args.count (max 1 c.args.count) c.args.width c.args.taken c.loop-index.index c.args.bytes.now c.loop-index.file.items c.row-part.result.now (omega (arith, c.max-total.ensures, c.from.ensures, c.loop-index-test.true)) (omega arith) c.row-part.ensures.value (sym c.is_part.ensures.is ∙ c.if-not-is_part.false)
      ∙ ap (λ (t : List ℕ). before t (left_at c.args.id c.args.count (max 1 c.args.count) c.args.width c.args.taken c.args.bytes.now (c.loop-index.index + 1))) (sym c.append_content.ensures.items);
  len = omega (arith, c.append_content.ensures.len, c.loop-index.invariant.len, c.row-part.ensures.size);
  capacity = omega (arith, c.append_content.ensures.capacity, c.loop-index.invariant.capacity);
}

pub returns-clause-answer : goal.returns-clause-answer
returns-clause-answer c =
    c.loop-index.invariant.walk
    ∙ walk_done c.args.id c.args.count (max 1 c.args.count) c.args.width c.args.taken c.loop-index.index c.args.bytes.now c.loop-index.file.items (omega (arith, c.max-total.ensures, c.from.ensures, c.loop-index-test.false))
    ∙ ap Ok (append-nil c.loop-index.file.items)
