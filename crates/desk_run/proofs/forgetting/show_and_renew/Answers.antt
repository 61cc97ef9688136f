use Rattle.std.proofs.Common.{◌≡◌, true, refl, Ok}
use Rattle.desk_run.specs.Shown.{new_letters}
use Rattle.desk_run.proofs.PrintLaws.{prints_before}
use Rattle.desk_run.proofs.StatusLaws.{met_of}
use Rattle.desk_run.proofs.WordLaws.{end_some, forgets, tells_and}
use Rattle.desk_run.proofs.forgetting.show_and_renew.Goals as goal

pub returns-clause-met : goal.returns-clause-met
returns-clause-met g c is =
    let met : c.in_ok-shown.shown.met ≡ true = met_of c.in_ok-shown.shown.met c.end_by.result (Ok c.end_by.result) c.end_by.ensures refl is in
    prints_before _ _ _ _ (c.in_ok-shown.ensures.told met) c.in_ok-say.ensures.said

pub returns-clause-done : goal.returns-clause-done
returns-clause-done g c old resumes =
    forgets g.F.File.Disk.disk c.end_by.result old _ _ c.args.ledger.now c.show_new.new.ledger
    resumes c.in_ok-shown.ensures.notes c.in_ok-renew.ensures.renews refl
    (tells_and _ _ _ _ _ c.in_ok-shown.ensures.shown c.in_ok-say.ensures.said)
    (end_some c.in_ok-shown.shown.met c.end_by.result (new_letters c.args.ledger.now.entries) c.end_by.ensures c.in_ok-shown.ensures.met)
