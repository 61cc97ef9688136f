use Rattle.client_restart.proofs.CoreLaws.{ask_unspent}
use Rattle.client_core.specs.Requests.{plain_request}
use Rattle.std.proofs.Common.{◌∙◌}
use Rattle.kept_ledger.proofs.ledger.Ledger.ask.Goals as goal

pub invariant_of-self : goal.invariant_of-self
invariant_of-self c = record {
  pair = c.self.invariant.pair;
  width = c.ask.ensures.width ∙ c.self.invariant.width;
  unspent = ask_unspent c.ask.result c.self.inside.client c.ask.new.self (plain_request c.request.result)
      c.ask.ensures.asked c.ask.ensures.same c.self.invariant.unspent;
}
