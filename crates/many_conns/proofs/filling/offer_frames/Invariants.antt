use Rattle.std.proofs.Common.{◌≤◌, ◌-◌, ◌≡◌, ℕ, length}
use Rattle.std.specs.Prelude.{Option}
use Rattle.many_conns.specs.Batches.{Batch, Offered, entries_of}
use Rattle.many_conns.specs.Places.{frames_of}
use Rattle.many_conns.proofs.filling.offer_frames.Given as goal

-- what is offered from here on is so of all
abbrev pub invariant-loop : goal.invariant-loop
invariant-loop g l = record {
  room : length l.rest ≤ 16384;
  goes_on : (c : Batch) (stop : Option ℕ)
      → Offered g.S.Answering.rules.is_dear
      (entries_of g.S.Answering.rules l.server l.place l.door (frames_of (g.S.Answering.rules.whole l.door) (length l.held - l.counter) l.rest)) l.batch c stop
      → Offered g.S.Answering.rules.is_dear
      (entries_of g.S.Answering.rules l.server l.place l.door (frames_of (g.S.Answering.rules.whole l.door) (length l.held) l.held)) l.fn.batch c stop;
}
