use Rattle.snip_proof.proofs.Writes.{few_points}
use Rattle.snip_proof.proofs.laws.accepted_points_are_few.Goals as goal

pub returns : goal.returns
returns c = record {
  caught =
      few_points c.args.ckey.now c.args.addresses.now c.args.leaves.zero.now c.args.leaves.one.now c.args.shares.zero.now c.args.shares.one.now c.args.points.now
      c.read_words.ensures.in_range c.read_words-2.ensures.in_range c.requires.zero c.requires.one
      c.read_share.ensures.in_range c.read_share-2.ensures.in_range c.read_words-3.ensures.in_range
      c.requires.distinct c.requires.accepted c.requires.two;
}
