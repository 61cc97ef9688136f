use Rattle.std.proofs.Common.{◌≡◌, ◌*◌, drop}
use Rattle.audit_rules.specs.Challenges.{sums_under}
use Rattle.write_sketch.specs.Parts.{sums_with}
use Rattle.write_sketch.proofs.sums.Given as goal

-- with the sums of the boxes that are left these are the sums of all
abbrev pub invariant-loop-batch : goal.invariant-loop-batch
invariant-loop-batch l =
    sums_under l.ckey l.addresses l.states
    ≡ sums_with l.sums (sums_under l.ckey (drop (256 * l.batch) l.addresses) (drop (256 * l.batch) l.states))
