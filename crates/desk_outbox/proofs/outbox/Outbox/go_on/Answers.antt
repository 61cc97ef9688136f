use Rattle.std.proofs.Common.{sym}
use Rattle.desk_outbox.proofs.TryLaws.{heard_try, steps_on}
use Rattle.desk_outbox.proofs.outbox.Outbox.go_on.Goals as goal

pub invariant_of-self : goal.invariant_of-self
invariant_of-self g c =
    let fits = rw (sym c.self.view_is) at c.requires.fits in
    heard_try g.D.Disk.disk g.D.Counted.seen _ _ _ _ _ c.hear.result c.self.invariant fits (c.hear.ensures.keeps (steps_on _ fits))
