use Rattle.std.proofs.Common.{refl}
use Rattle.node_restart.specs.Frames.{handed}
use Rattle.node_restart.proofs.machine.ServerMachine.is_record.Goals as goal

pub returns-in-Some : goal.returns-in-Some
returns-in-Some c =
    let x = c.in-Some.field-0 in
    (λ is. record { handed = handed x.0 x.1; whole = c.in-Some.ensures.some; is = c.in-Some.ensures.is }, λ of. refl)

pub returns-in-None : goal.returns-in-None
returns-in-None c = (λ is. absurd (cc is), λ of. absurd (c.in-None.ensures.none refl of.handed of.whole of.is))
