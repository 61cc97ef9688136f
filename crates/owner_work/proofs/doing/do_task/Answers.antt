use Rattle.std.proofs.Common.{◌≡◌, ◌∙◌, Err, ap, refl, sym, true}
use Rattle.desk_around.specs.declared.trouble.Trouble.{Trouble}
use Rattle.kept_ledger.specs.declared.machine.KeptLedger.{KeptLedger}
use Rattle.kept_ledger.specs.Inside.{LedgerSeen}
use Rattle.kept_ledger.specs.Ledgers.{takes_task}
use Rattle.kept_ledger.specs.Notes.{Asked}
use Rattle.owner_work.specs.Works.{asked, unasked}
use Rattle.owner_work.proofs.OnlyLaws.{nothing_works, one_works, works_both}
use Rattle.owner_work.proofs.SettleLaws.{does_ended}
use Rattle.owner_work.proofs.doing.do_task.Goals as goal

pub returns-then-is_full-clause-only : goal.returns-then-is_full-clause-only
returns-then-is_full-clause-only g c = nothing_works _ _ refl

pub returns-then-not-takes-clause-only : goal.returns-then-not-takes-clause-only
returns-then-not-takes-clause-only g c = nothing_works _ _ refl

pub returns-in-Ok-clause-does : goal.returns-in-Ok-clause-does
returns-in-Ok-clause-does g c =
    let same : c.ledger.result.now ≡ c.args.kept.now.machine.ledger =
    c.ledger.ensures ∙ ap (λ (k : KeptLedger). k.ledger) c.machine.ensures.value in
    let takes : takes_task c.args.kept.now.machine.ledger.state c.args.task ≡ true =
    ap (λ (l : LedgerSeen). takes_task l.state c.args.task) (sym same)
    ∙ (sym c.takes.ensures ∙ c.if-not-takes.false) in
    asked takes c.keep_note.new.kept
    (record { keeps = c.in-Ok.ensures.keeps; step = c.in-Ok.ensures.noted }) c.settle.ensures.settles

pub returns-in-Ok-clause-ended : goal.returns-in-Ok-clause-ended
returns-in-Ok-clause-ended g c =
    let same : c.ledger.result.now ≡ c.args.kept.now.machine.ledger =
    c.ledger.ensures ∙ ap (λ (k : KeptLedger). k.ledger) c.machine.ensures.value in
    let takes : takes_task c.args.kept.now.machine.ledger.state c.args.task ≡ true =
    ap (λ (l : LedgerSeen). takes_task l.state c.args.task) (sym same)
    ∙ (sym c.takes.ensures ∙ c.if-not-takes.false) in
    does_ended g.D.Disk.disk g.D.Counted.seen c.args.task c.args.kept.now c.settle.new.kept c.settle.result
    (g.N.Counted.seen c.args.net.now).calls (g.N.Counted.seen c.settle.new.net).calls
    (g.C.Counted.seen c.args.clock.now).faults (g.C.Counted.seen c.settle.new.clock).faults
    (asked takes c.keep_note.new.kept
    (record { keeps = c.in-Ok.ensures.keeps; step = c.in-Ok.ensures.noted }) c.settle.ensures.settles)

pub returns-in-Ok-clause-only : goal.returns-in-Ok-clause-only
returns-in-Ok-clause-only g c =
    works_both _ _ _ (one_works _ _ (Asked c.args.task) tt c.in-Ok.ensures.noted) c.settle.ensures.only

pub returns-in-Err-clause-does : goal.returns-in-Err-clause-does
returns-in-Err-clause-does g c =
    unasked c.in-Err.fault (ap (λ (t : Trouble). Err t) c.unnoted.ensures.trouble)
    (record { keeps = c.in-Err.ensures.keeps; same = c.in-Err.ensures.same }) refl

pub returns-in-Err-clause-only : goal.returns-in-Err-clause-only
returns-in-Err-clause-only g c = nothing_works _ _ c.in-Err.ensures.same
