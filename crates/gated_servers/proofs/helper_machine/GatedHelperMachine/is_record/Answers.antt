use Rattle.std.proofs.Common.{inl, refl}
use Rattle.node_restart.specs.Frames.{handed}
use Rattle.gated_servers.proofs.helper_machine.GatedHelperMachine.is_record.Goals as goal

pub returns-in-Some : goal.returns-in-Some
returns-in-Some c =
    let x = c.in-Some.field-0 in
    (λ is. inl (record { handed = handed x.0 x.1; whole = c.in-Some.ensures.some; is = c.in-Some.ensures.is }), λ of. refl)
