use Rattle.std.proofs.Common.{◌≡◌, take}
use Rattle.many_words.specs.Events.{records_of}
use Rattle.logged_hub.proofs.filling.fill.Given as goal

abbrev pub invariant-loop-entry : goal.invariant-loop-entry
invariant-loop-entry l = record {
  records : l.batch.records ≡ records_of (take l.entry-index l.entries);
  room : l.batch.room ≡ l.fn.batch.room;
}
