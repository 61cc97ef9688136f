use Rattle.std.proofs.Common.{◌≡◌, arith, subst}
use Rattle.std.proofs.lemmas.Grind.{common_steps}
use Rattle.client_restart.specs.Cores.{ended_in}
use Rattle.client_restart.specs.Steps.{EndedRequest}
use Rattle.desk_ledger.specs.Storing.{Misses}
use Rattle.desk_ledger.proofs.ledger.Ledger.oldest.Goals as goal

pub returns-in-Ok-clause-misses : goal.returns-in-Ok-clause-misses
returns-in-Ok-clause-misses g c e rest is =
    let same : ended_in c.ended-item.result ≡ e = grind (arith, common_steps) in
    subst (λ (x : EndedRequest). Misses c.args.self.now.entries c.args.self.now.client.core.boxes c.args.seconds x c.in-Ok.entry) same c.in-Ok.ensures.misses
