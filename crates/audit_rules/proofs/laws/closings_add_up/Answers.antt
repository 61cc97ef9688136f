use Rattle.audit_rules.proofs.Whole.{closings_add}
use Rattle.audit_rules.proofs.laws.closings_add_up.Goals as goal

pub returns : goal.returns
returns c =
    closings_add c.args.sums0.now c.args.sums1.now c.args.share0.now c.args.share1.now c.args.sigma
    c.read_sums.ensures.in_range c.read_sums-2.ensures.in_range c.read_share.ensures.in_range c.read_share-2.ensures.in_range c.ranges.sigma.fits
