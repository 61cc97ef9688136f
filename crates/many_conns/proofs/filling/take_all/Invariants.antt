use Rattle.std.proofs.Common.{◌≡◌, length, drop}
use Rattle.many_conns.specs.Batches.{all_taken}
use Rattle.many_conns.proofs.filling.take_all.Given as goal

abbrev pub invariant-loop-index : goal.invariant-loop-index
invariant-loop-index l = all_taken l.now (drop l.index l.entries) l.places.items ≡ all_taken l.now l.entries l.fn.places.items
