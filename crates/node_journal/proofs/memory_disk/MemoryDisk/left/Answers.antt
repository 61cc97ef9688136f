use Rattle.std.proofs.Common.{◌≡◌, sym, subst}
use Rattle.node_journal.specs.History.{left_of, MayLeave}
use Rattle.node_journal.specs.Memory.{DiskState}
use Rattle.node_journal.proofs.Histories.{left_may}
use Rattle.node_journal.proofs.memory_disk.MemoryDisk.left.Goals as goal

pub returns-clause-may_be : goal.returns-clause-may_be
returns-clause-may_be c =
    let held : c.deref.result.now ≡ left_of c.self.inside.arriving.items c.self.inside.log.history = cc (c.deref.ensures.value, c.self.invariant.1) in
    subst (λ (d : DiskState). MayLeave d.log.history c.deref.result.now) c.self.view_is
    (subst (MayLeave c.self.inside.log.history) (sym held) (left_may c.self.inside.arriving.items c.self.inside.log.history))
