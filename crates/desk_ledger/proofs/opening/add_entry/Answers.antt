use Rattle.desk_ledger.proofs.DeskLaws.{if_pushed}
use Rattle.desk_ledger.proofs.opening.add_entry.Goals as goal

pub returns-clause-are : goal.returns-clause-are
returns-clause-are c =
    if_pushed c.push_entry.result c.args.entries.now.items c.push_entry.new.entries.items c.in_ok-entry.entry c.push_entry.ensures.more c.requires.are
    c.in_ok-entry.ensures.entry.0
