use Rattle.link_order.specs.Ring.{carried_in}
use Rattle.link_order.proofs.LinkLaws.{last-turns, carried-more}
use Rattle.link_order.proofs.incoming.Incoming.carry.Goals as goal

pub returns-clause-turns : goal.returns-clause-turns
returns-clause-turns c = rw (c.push.ensures, ← c.self.view_is) (last-turns c.self.inside.ring.window c.self.inside.ring.frames c.args.reply.now c.self.invariant.some)

pub returns-clause-link : goal.returns-clause-link
returns-clause-link c =
    let fits = rw (← c.self.view_is) at c.requires.fits in
    rw c.push.ensures (carried-more (carried_in c.self.inside.ring) c.args.reply.now c.self.invariant fits)
