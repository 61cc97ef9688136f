use Rattle.std.proofs.Common.{arith}
use Rattle.dpf_eval.proofs.PrefixLemmas.{same_prefix, other_prefix}
use Rattle.dpf_eval.proofs.splits.split.Goals as goal

pub returns-clause-joined : goal.returns-clause-joined
returns-clause-joined c i early below = same_prefix c.args.before c.args.address c.ranges.before.fits c.ranges.address.fits i (omega arith) below

pub returns-clause-apart : goal.returns-clause-apart
returns-clause-apart c i past below = other_prefix c.args.before c.args.address c.ranges.before.fits c.ranges.address.fits i (omega arith) below
