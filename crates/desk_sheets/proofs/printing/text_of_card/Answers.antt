use Rattle.std.proofs.Common.{◌∙◌, ◌++◌, ℕ, List, ap, map}
use Rattle.desk_texts.specs.Printing.{printed_from}
use Rattle.desk_texts.specs.Spelling.{address_text}
use Rattle.desk_sheets.proofs.PrintLaws.{three_lines}
use Rattle.desk_sheets.proofs.printing.text_of_card.Goals as goal

pub returns : goal.returns
returns c =
    c.in_ok-add_addresses.ensures
    ∙ ap (λ (all : List ℕ). c.add_line-3.new.text.items ++ printed_from c.add_line-3.new.said.items (map address_text all)) c.as_slice.ensures
    ∙ three_lines _ _ _ _ _ _ _ _ _ _ _ _ _ _ _ c.new-text.ensures.items c.new-said.ensures.items
    (record { text_is = c.in_ok-add_line.ensures.text; said_is = c.in_ok-add_line.ensures.said })
    (record { text_is = c.in_ok-add_line-2.ensures.text; said_is = c.in_ok-add_line-2.ensures.said })
    (record { text_is = c.in_ok-add_line-3.ensures.text; said_is = c.in_ok-add_line-3.ensures.said })
    (c.as_bytes.ensures.value ∙ c.in_ok-head.ensures)
    (c.as_bytes-2.ensures.value ∙ c.in_ok-leader.ensures)
    (c.as_bytes-3.ensures.value ∙ c.in_ok-helper.ensures)
