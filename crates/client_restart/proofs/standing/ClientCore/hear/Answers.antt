use Rattle.std.proofs.Common.{◌∙◌, sym}
use Rattle.client_restart.specs.Cores.{core_in}
use Rattle.client_restart.proofs.CoreLaws.{heard_idle, no_errand}
use Rattle.client_restart.proofs.standing.ClientCore.hear.Goals as goal

pub returns-in-None-clause-heard : goal.returns-in-None-clause-heard
returns-in-None-clause-heard c =
    heard_idle (core_in c.args.self.now) c.args.frame.now (no_errand c.args.self.now.client.current (sym c.errand.ensures ∙ c.in-None.is))
