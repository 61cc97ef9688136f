use Rattle.std.proofs.Common.{arith, ◌-◌}
use Rattle.link_order.proofs.LinkLaws.{fits-at}
use Rattle.link_order.proofs.incoming.Incoming.arrival.Goals as goal

pub returns : goal.returns
returns c =
    rw (← c.self.view_is) (record {
      which = (
        c.args.number - (c.pushed-carried.result - c.len.result) - 1,
        (omega (arith, c.len.ensures.len, c.pushed-carried.ensures), omega (arith, c.len.ensures.len, c.pushed-carried.ensures)),
        c.get.ensures,
      );
      room = fits-at c.self.inside.ring.size c.self.inside.ring.frames _ c.get.result.now c.self.invariant.short c.get.ensures;
      link = c.self.invariant;
    })
