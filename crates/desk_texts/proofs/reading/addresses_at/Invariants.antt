use Rattle.std.proofs.Common.{◌≡◌, ◌+◌, ◌-◌, []}
use Rattle.desk_texts.specs.Lines.{lines_in}
use Rattle.desk_texts.specs.Sheets.{addresses_at}
use Rattle.desk_texts.proofs.reading.addresses_at.Given as goal

abbrev pub invariant-loop-index : goal.invariant-loop-index
invariant-loop-index l =
    addresses_at (l.count - l.index) (l.place + l.index) l.said.items l.addresses.items (lines_in l.rest)
    ≡ addresses_at l.count l.place l.fn.said.items [] (lines_in l.text)
