use Rattle.std.proofs.Common.{refl}
use Rattle.client_run.specs.Carries.{FetchedPart}
use Rattle.client_run.specs.Runs.{plan_of}
use Rattle.client_run.proofs.CarryLaws.{on_err, whole_part}
use Rattle.client_run.proofs.carry.fetch.Goals as goal

pub returns-clause-wants : goal.returns-clause-wants
returns-clause-wants g c =
    let part : FetchedPart (plan_of c.args.worker.now c.args.requests.now) (g.N.Counted.seen c.args.net.now).calls (g.N.Counted.seen c.carry_off.new.net).calls
    = (c.args.worker.now.peers, record { leads = refl; helps = refl }, whole_part _ _ _ _ c.in_ok-carried.carried _ _ c.in_ok-carried.ensures.works c.in_ok-carried.ensures.carried) in
    on_err _ _ part
