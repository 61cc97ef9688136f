use Rattle.std.proofs.Common.{◌-◌, ◌+◌, ◌∙◌, sym, arith}
use Rattle.letter_copies.proofs.PartLaws.{all_with, all_without, behind_length}
use Rattle.letter_copies.proofs.copies.Copies.is_all_written.Goals as goal

pub returns-then-not-has_written : goal.returns-then-not-has_written
returns-then-not-has_written c =
    let more = c.parts-test.true in
    sym (c.parts.invariant.1
    ∙ all_without _ _ _ _ (omega (arith, more)) c.split_at.ensures.front
    (sym c.has_written.ensures ∙ c.if-not-has_written.true))

pub parts-preserved : goal.parts-preserved
parts-preserved c =
    let more = c.parts-test.true in (
      behind_length (c.self.inside.parts - c.parts.counter) (c.self.inside.parts - (c.parts.counter + 1)) _ _ _
          (omega (arith, more)) c.parts.invariant.0 c.split_at.ensures.back_len,
      c.parts.invariant.1
          ∙ all_with (c.self.inside.parts - c.parts.counter) (c.self.inside.parts - (c.parts.counter + 1)) _ _ _ _
          (omega (arith, more)) c.split_at.ensures.front c.split_at.ensures.back
          (sym c.has_written.ensures ∙ c.if-not-has_written.false),
    )
