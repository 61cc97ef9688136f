use Rattle.std.proofs.Common.{refl}
use Rattle.client_run.proofs.RunLaws.{send_comes}
use Rattle.client_run.proofs.carry.send.Goals as goal

pub returns-clause-sends : goal.returns-clause-sends
returns-clause-sends g c =
    send_comes c.args.parts _ c.args.worker.now.peers _ _ _ _ (record { leads = refl; helps = refl }) c.tell_off-end.ensures.tells c.said.ensures
