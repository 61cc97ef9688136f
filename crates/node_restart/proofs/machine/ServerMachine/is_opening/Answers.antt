use Rattle.std.proofs.Common.{refl}
use Rattle.node_restart.proofs.machine.ServerMachine.is_opening.Goals as goal

pub returns-in-Some : goal.returns-in-Some
returns-in-Some c = (λ is. record { opening = c.in-Some.field-0; is_opening = c.in-Some.ensures.some; is = c.in-Some.ensures.is }, λ of. refl)

pub returns-in-None : goal.returns-in-None
returns-in-None c = (λ is. absurd (cc is), λ of. absurd (c.in-None.ensures.none refl of.opening of.is_opening of.is))
