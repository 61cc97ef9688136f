use Rattle.std.proofs.Common.{◌≡◌, ◌++◌, drop, map}
use Rattle.desk_texts.specs.Printing.{printed_from}
use Rattle.desk_texts.specs.Spelling.{address_text}
use Rattle.desk_texts.proofs.printing.add_addresses.Given as goal

abbrev pub invariant-loop-address : goal.invariant-loop-address
invariant-loop-address l =
    l.text.items ++ printed_from l.said.items (map address_text (drop l.address-index l.addresses))
    ≡ l.fn.text.items ++ printed_from l.fn.said.items (map address_text l.addresses)
