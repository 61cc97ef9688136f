use Rattle.audit_rules.proofs.Whole.{whole_is}
use Rattle.audit_rules.proofs.laws.sums_add_up.Goals as goal

pub returns : goal.returns
returns c =
    whole_is c.args.zero.now c.args.one.now c.args.r.now c.args.s.now
    c.read_words.ensures.in_range c.read_words-2.ensures.in_range c.read_words-3.ensures.in_range c.read_words-4.ensures.in_range c.requires
