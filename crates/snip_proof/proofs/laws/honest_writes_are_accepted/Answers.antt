use Rattle.snip_proof.proofs.Writes.{honest_accepted}
use Rattle.snip_proof.proofs.laws.honest_writes_are_accepted.Goals as goal

pub returns : goal.returns
returns c = record {
  accepted =
      honest_accepted c.args.ckey.now c.args.addresses.now c.args.leaves.zero.now c.args.leaves.one.now c.args.choices.now c.args.place c.args.sigma
      c.read_words.ensures.in_range c.read_words-2.ensures.in_range c.read_words-3.ensures.in_range c.ranges.sigma.fits
      c.requires.zero c.requires.one c.requires.place c.requires.distinct c.requires.equal;
}
