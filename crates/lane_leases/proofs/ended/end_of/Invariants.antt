use Rattle.lane_leases.proofs.EndLaws.{FoundBelow}
use Rattle.lane_leases.proofs.ended.end_of.Given as goal

abbrev pub invariant-loop-place : goal.invariant-loop-place
invariant-loop-place l = FoundBelow l.place l.ends.items l.hash l.found
