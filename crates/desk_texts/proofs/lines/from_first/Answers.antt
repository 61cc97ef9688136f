use Rattle.std.proofs.Common.{◌≡◌, ◌∙◌, [], sym, ap, refl, arith}
use Rattle.std.proofs.lemmas.Grind.{common_steps}
use Rattle.express_texts.specs.Lines.{lines_of}
use Rattle.express_texts.proofs.LineLemmas.{empty_from}
use Rattle.desk_texts.specs.Lines.{lines_in}
use Rattle.desk_texts.proofs.FindLaws.{from_start, at_other, drop_next, nothing_left, room_used_up, nothing_found, line_found, found_lines, all_lines}
use Rattle.desk_texts.proofs.lines.from_first.Goals as goal

pub loop-number-init : goal.loop-number-init
loop-number-init c = record { stands = refl; first = from_start _ }

pub returns-then-is_empty-clause-before : goal.returns-then-is_empty-clause-before
unfolding lines_of
returns-then-is_empty-clause-before c =
    let all_read : c.loop-number.rest.now ≡ [] = empty_from _ (grind (arith, common_steps)) in
    let none : lines_in c.loop-number.rest.now ≡ [] = ap lines_in all_read in
    nothing_found (lines_in c.args.text.now) (sym c.loop-number.invariant.first ∙ nothing_left c.loop-number.number _ none)

pub returns-then-is_empty-clause-lines : goal.returns-then-is_empty-clause-lines
returns-then-is_empty-clause-lines c = all_lines _ (returns-then-is_empty-clause-before c)

pub returns-then-begins_sheet-clause-before : goal.returns-then-begins_sheet-clause-before
returns-then-begins_sheet-clause-before c =
    line_found c.loop-number.number c.first_trimmed.result.0.now (lines_in c.args.text.now) (lines_in c.loop-number.rest.now) (lines_in c.first_trimmed.result.1.now) c.loop-number-test.true c.first_trimmed.ensures (sym c.begins_sheet.ensures ∙ c.if-begins_sheet.true) c.loop-number.invariant.first

pub returns-then-begins_sheet-clause-lines : goal.returns-then-begins_sheet-clause-lines
returns-then-begins_sheet-clause-lines c =
    c.loop-number.invariant.stands ∙ found_lines _ _ (returns-then-begins_sheet-clause-before c)

pub loop-number-preserved : goal.loop-number-preserved
loop-number-preserved c = record {
  stands = drop_next (lines_in c.args.text.now) c.loop-number.number c.first_trimmed.result.0.now (lines_in c.first_trimmed.result.1.now) (sym c.first_trimmed.ensures ∙ c.loop-number.invariant.stands);
  first = at_other c.loop-number.number c.first_trimmed.result.0.now (lines_in c.loop-number.rest.now) (lines_in c.first_trimmed.result.1.now) c.loop-number-test.true c.first_trimmed.ensures (sym c.begins_sheet.ensures ∙ c.if-begins_sheet.false) ∙ c.loop-number.invariant.first;
}

pub returns-clause-before : goal.returns-clause-before
returns-clause-before c =
    nothing_found (lines_in c.args.text.now) (sym c.loop-number.invariant.first ∙ room_used_up c.loop-number.number _ c.loop-number-test.false)

pub returns-clause-lines : goal.returns-clause-lines
returns-clause-lines c = all_lines _ (returns-clause-before c)
