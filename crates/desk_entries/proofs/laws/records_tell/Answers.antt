use Rattle.desk_entries.proofs.EntryLaws.{one_entry, one_list}
use Rattle.desk_entries.proofs.laws.records_tell.Goals as goal

pub returns-clause-one : goal.returns-clause-one
returns-clause-one c = one_entry

pub returns-clause-lists : goal.returns-clause-lists
returns-clause-lists c = one_list
