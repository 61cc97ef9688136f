use Rattle.std.proofs.Common.{◌≡◌, ◌∙◌, true, refl, subst, List, ℕ, Ok}
use Rattle.express_words.specs.Streams.{Took}
use Rattle.desk_run.specs.Shown.{new_letters}
use Rattle.desk_run.proofs.PrintLaws.{prints_before}
use Rattle.desk_run.proofs.StatusLaws.{met_of}
use Rattle.desk_run.proofs.WordLaws.{end_some, retires, tells_and}
use Rattle.desk_run.proofs.retiring.retire_and_show.Goals as goal

pub returns-clause-met : goal.returns-clause-met
returns-clause-met g c is =
    let met : c.in_ok-shown.shown.met ≡ true = met_of c.in_ok-shown.shown.met c.end_by.result (Ok c.end_by.result) c.end_by.ensures refl is in
    prints_before _ _ _ _ (c.in_ok-shown.ensures.told met) c.in_ok-say.ensures.said

pub returns-clause-done : goal.returns-clause-done
returns-clause-done g c old resumes =
    let line = subst (λ (t : List ℕ). Took (g.K.Counted.seen c.show_new.new.out).written (g.K.Counted.seen c.say.new.out).written t)
    (c.as_str.ensures.value ∙ c.in_ok-text.ensures) c.in_ok-say.ensures.said in
    retires g.F.File.Disk.disk c.args.name.now c.end_by.result old _ _ c.args.ledger.now c.retire_name.new.self
    c.carry_on-done.new.ledger resumes c.in_ok-check_room.ensures.room
    (record {
      retiring = c.in_ok-retire_name.ensures.retiring c.if-not-branch.false;
      noted = c.in_ok-retire_name.ensures.noted;
      only = c.in_ok-retire_name.ensures.only;
    })
    c.in_ok-done.ensures.goes c.in_ok-done.ensures.nothing_left refl
    (tells_and _ _ _ _ _ c.in_ok-shown.ensures.shown line)
    (end_some c.in_ok-shown.shown.met c.end_by.result (new_letters c.carry_on-done.new.ledger.entries) c.end_by.ensures c.in_ok-shown.ensures.met)
