use Rattle.std.proofs.Common.{◌∙◌, ℕ, List, ap, inr}
use Rattle.std.proofs.lemmas.Result.{IfOk-weaker}
use Rattle.desk_texts.specs.Lines.{lines_in}
use Rattle.desk_sheets.specs.Sheets.{card_in}
use Rattle.desk_send.proofs.StartLaws.{opened_as, opened_count, written_as}
use Rattle.desk_send.proofs.starting.write_letter.Goals as goal

pub write_opened-requires-clause-count : goal.write_opened-requires-clause-count
write_opened-requires-clause-count g c =
    let read = ap (λ (l : List ℕ). card_in (lines_in l)) c.deref.ensures.value
    ∙ c.in_ok-printed.ensures.again c.requires.card in
    opened_count _ c.args.card.now c.args.text.now _
    (opened_as _ c.args.card.now c.args.text.now _ _ _ c.draw_opening-opening.ensures.opening
    c.count_of.ensures read c.requires.card c.requires.text)

pub returns-clause-letter : goal.returns-clause-letter
returns-clause-letter g c =
    let read = ap (λ (l : List ℕ). card_in (lines_in l)) c.deref.ensures.value
    ∙ c.in_ok-printed.ensures.again c.requires.card in
    IfOk-weaker c.write_opened.result _ _
    (λ k written. written_as _ _ c.args.card.now c.args.text.now _
    (opened_as _ c.args.card.now c.args.text.now _ _ _ c.draw_opening-opening.ensures.opening
    c.count_of.ensures read c.requires.card c.requires.text) written)
    c.write_opened.ensures.letter

pub returns-clause-drawn : goal.returns-clause-drawn
returns-clause-drawn g c = inr c.draw_opening-opening.ensures.behind
