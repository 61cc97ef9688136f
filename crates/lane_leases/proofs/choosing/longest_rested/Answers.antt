use Rattle.std.proofs.Common.{subst, arith}
use Rattle.lane_leases.proofs.RestLaws.{Found, longest-of-all}
use Rattle.lane_leases.proofs.choosing.longest_rested.Goals as goal

pub returns-in-Some-clause-some : goal.returns-in-Some-clause-some
returns-in-Some-clause-some c =
    longest-of-all c.args.rows.now c.loop-place.place c.in-Some.resting (omega arith)
    (subst (Found c.args.rows.now c.loop-place.place) c.in-Some.is c.loop-place.invariant)
