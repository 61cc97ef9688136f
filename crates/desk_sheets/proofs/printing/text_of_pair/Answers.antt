use Rattle.std.proofs.Common.{◌∙◌, []}
use Rattle.desk_sheets.proofs.PrintLaws.{ends_here, three_lines}
use Rattle.desk_sheets.proofs.printing.text_of_pair.Goals as goal

pub returns : goal.returns
returns c =
    ends_here _ _
    ∙ three_lines _ _ _ _ _ _ _ _ _ _ _ _ _ _ [] c.new-text.ensures.items c.new-said.ensures.items
    (record { text_is = c.in_ok-add_line.ensures.text; said_is = c.in_ok-add_line.ensures.said })
    (record { text_is = c.in_ok-add_line-2.ensures.text; said_is = c.in_ok-add_line-2.ensures.said })
    (record { text_is = c.in_ok-add_line-3.ensures.text; said_is = c.in_ok-add_line-3.ensures.said })
    (c.as_bytes.ensures.value ∙ c.in_ok-head.ensures)
    (c.deref.ensures.value ∙ c.in_ok-leader.ensures)
    (c.deref-2.ensures.value ∙ c.in_ok-helper.ensures)
