use Rattle.client_restart.proofs.CoreLaws.{ask_unspent}
use Rattle.client_core.specs.Requests.{plain_request}
use Rattle.std.proofs.Common.{◌∙◌}
use Rattle.client_restart.proofs.standing.ClientCore.ask.Goals as goal

pub returns-clause-is : goal.returns-clause-is
returns-clause-is c =
    record {
      limits = c.requires.is.limits;
      width = c.ask.ensures.width ∙ c.requires.is.width;
      unspent = ask_unspent c.ask.result c.args.self.now.client c.ask.new.self (plain_request c.args.request.now)
          c.ask.ensures.asked c.ask.ensures.same c.requires.is.unspent;
    }
