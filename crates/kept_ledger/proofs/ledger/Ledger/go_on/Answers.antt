use Rattle.client_restart.proofs.CoreLaws.{reply_unspent}
use Rattle.std.proofs.Common.{◌∙◌}
use Rattle.kept_ledger.proofs.ledger.Ledger.go_on.Goals as goal

pub invariant_of-self : goal.invariant_of-self
invariant_of-self c = record {
  pair = c.self.invariant.pair;
  width = c.on_reply.ensures.width ∙ c.self.invariant.width;
  unspent = reply_unspent c.self.inside.client c.on_reply.new.self c.args.frame.now c.on_reply.ensures.client
      c.self.invariant.unspent;
}
