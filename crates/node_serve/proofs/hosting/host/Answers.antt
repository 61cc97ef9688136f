use Rattle.std.proofs.Common.{refl, ap, ◌∙◌, arith}
use Rattle.node_serve.specs.Tallies.{total}
use Rattle.node_serve.proofs.HostLaws.{hosting, hosting_more, hosted, halted}
use Rattle.node_serve.proofs.hosting.host.Goals as goal

pub loop-init : goal.loop-init
loop-init g c = record {
  within = omega arith;
  sum = ap total c.new-tally.ensures;
  hosting = hosting _ _ _ _ _ g.met.S.Logged.none c.new-tally.ensures;
  door = refl;
  failures = refl;
  later = omega arith;
}

pub returns-in-Err-clause-hosts : goal.returns-in-Err-clause-hosts
returns-in-Err-clause-hosts g c =
    halted _ _ _ _ _ _ _ _ _ c.in-Err.halt g.met.S.Logged.halts c.loop.invariant.hosting c.loop-test.true c.in-Err.ensures.ends

pub loop-preserved : goal.loop-preserved
loop-preserved g c =
    let n = c.count.ensures in
    record {
      within = omega (arith, c.loop-test.true);
      sum = omega (arith, n.one_more, c.loop.invariant.sum);
      hosting = hosting_more _ _ _ _ _ _ _ _ _ _ g.met.S.Logged.both c.loop.invariant.hosting c.in-Ok.ensures.ends n.counts;
      door = c.in-Ok.ensures.door ∙ c.loop.invariant.door;
      failures = c.in-Ok.ensures.counts ∙ c.loop.invariant.failures;
      later = omega (arith, c.visit.ensures.later, c.loop.invariant.later);
    }

pub returns-clause-hosts : goal.returns-clause-hosts
returns-clause-hosts g c =
    hosted _ _ _ _ _ c.loop.counter c.args.connections c.loop.tally (omega (arith, c.loop-test.false, c.loop.invariant.within)) c.loop.invariant.hosting
