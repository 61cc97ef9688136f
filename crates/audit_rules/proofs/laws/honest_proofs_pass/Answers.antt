use Rattle.audit_rules.proofs.AloneLaws.{alone_passes}
use Rattle.audit_rules.proofs.laws.honest_proofs_pass.Goals as goal

pub returns : goal.returns
returns c = record {
  passes =
      alone_passes c.args.w.now c.args.r.now c.args.s.now c.args.place c.args.sigma c.args.words.now
      c.read_words.ensures.in_range c.read_words-2.ensures.in_range c.read_words-3.ensures.in_range c.read_words-4.ensures.in_range c.ranges.sigma.fits
      c.requires.place c.requires.r c.requires.s c.requires.alone;
}
