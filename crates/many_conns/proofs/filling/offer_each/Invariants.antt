use Rattle.std.proofs.Common.{◌≡◌, length, take}
use Rattle.std.specs.Prelude.{None}
use Rattle.many_conns.specs.Batches.{Offered, whole_from}
use Rattle.many_conns.proofs.filling.offer_each.Given as goal

abbrev pub invariant-loop-place : goal.invariant-loop-place
invariant-loop-place g l =
    Offered g.S.Answering.rules.is_dear (whole_from g.S.Answering.rules l.server l.peers l.base (take l.place l.places)) l.fn.batch l.batch None
