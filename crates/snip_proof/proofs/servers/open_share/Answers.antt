use Rattle.snip_proof.proofs.Steps.{opened}
use Rattle.snip_proof.proofs.servers.open_share.Goals as goal

pub returns : goal.returns
returns c = record {
  openings =
      opened c.args.sums.now c.args.share.now c.args.sigma c.through-f.ensures.coefficients c.through-g.ensures.coefficients
      c.value_of.ensures.value c.value_of-of_g.ensures.value c.mul_fast.ensures;
}
