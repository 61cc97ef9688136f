use Rattle.std.proofs.Common.{ap, refl, Ok}
use Rattle.std.proofs.lemmas.Bool.{not-false, not-true}
use Rattle.desk_run.specs.Told.{told_of}
use Rattle.desk_run.specs.declared.ending.WordEnd.TheVariants as end
use Rattle.desk_run.proofs.StatusLaws.{met_of}
use Rattle.desk_run.proofs.WordLaws.{end_none, end_some, fetches, tells_none, tells_some}
use Rattle.desk_run.proofs.letters.fetch_and_show.Goals as goal

pub returns-clause-met : goal.returns-clause-met
returns-clause-met g c is =
    c.in_ok-shown.ensures.tells (met_of c.in_ok-shown.shown.met c.end_by.result (Ok c.end_by.result) c.end_by.ensures refl is)

pub returns-then-not-shown-clause-done : goal.returns-then-not-shown-clause-done
returns-then-not-shown-clause-done g c old resumes =
    let nothing = c.in_ok-shown.ensures.none (not-true _ c.if-not-shown.true) in
    fetches g.F.File.Disk.disk c.args.folder end.Done old _ _ c.args.ledger.now c.fetch-fetched.new.ledger c.show.new.ledger _
    c.in_ok-shown.ensures.notes resumes c.in_ok-fetched.ensures.reads
    (ap (λ net. (g.N.Counted.seen net).calls) c.in_ok-shown.ensures.net) (ap g.F.Folder.calls c.in_ok-shown.ensures.folder)
    (tells_none _ _ _ _ _ _ nothing c.in_ok-shown.ensures.told c.in_ok-say.ensures.said) (end_none (told_of c.args.folder c.fetch-fetched.new.ledger.entries) nothing)

pub returns-clause-done : goal.returns-clause-done
returns-clause-done g c old resumes =
    fetches g.F.File.Disk.disk c.args.folder c.end_by.result old _ _ c.args.ledger.now c.fetch-fetched.new.ledger c.show.new.ledger _
    c.in_ok-shown.ensures.notes resumes c.in_ok-fetched.ensures.reads
    (ap (λ net. (g.N.Counted.seen net).calls) c.in_ok-shown.ensures.net) (ap g.F.Folder.calls c.in_ok-shown.ensures.folder)
    (tells_some _ _ _ _ _ (c.in_ok-shown.ensures.some (not-false _ c.if-not-shown.false)) c.in_ok-shown.ensures.told)
    (end_some c.in_ok-shown.shown.met c.end_by.result (told_of c.args.folder c.fetch-fetched.new.ledger.entries)
    c.end_by.ensures c.in_ok-shown.ensures.met)
