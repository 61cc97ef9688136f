use Rattle.audit_rules.proofs.Soundness.{caught_two}
use Rattle.audit_rules.proofs.laws.bad_writes_are_caught.Goals as goal

pub returns : goal.returns
returns c = record {
  caught =
      caught_two c.args.w.now c.args.r.now c.args.s.now c.args.proof.now c.args.points.now
      c.read_words.ensures.in_range c.read_words-2.ensures.in_range c.read_words-3.ensures.in_range c.read_share.ensures.in_range c.read_words-4.ensures.in_range
      c.requires.two c.requires.r c.requires.s c.requires.distinct c.requires.passes;
}
