use Rattle.lane_leases.proofs.RestLaws.{Found}
use Rattle.lane_leases.proofs.choosing.longest_rested.Given as goal

abbrev pub invariant-loop-place : goal.invariant-loop-place
invariant-loop-place l = Found l.rows l.place l.best
