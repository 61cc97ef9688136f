use Rattle.std.proofs.Common.{◌≡◌, false, refl, sym}
use Rattle.std.specs.Prelude.{is_none}
use Rattle.owner_work.specs.Settling.{untimed, worked}
use Rattle.owner_work.proofs.OnlyLaws.{nothing_works, works_both}
use Rattle.owner_work.proofs.SettleLaws.{ended_all, settles_ended}
use Rattle.owner_work.proofs.settling.settle.Goals as goal

pub returns-then-is_idle-clause-only : goal.returns-then-is_idle-clause-only
returns-then-is_idle-clause-only g c = nothing_works _ _ refl

pub returns-in-Ok-clause-settles : goal.returns-in-Ok-clause-settles
returns-in-Ok-clause-settles g c =
    let busy : is_none c.args.kept.now.machine.ledger.state.client.current ≡ false =
    sym (rw (c.ledger.ensures, c.machine.ensures.value) at c.if-is_idle.ensures) in
    worked busy c.note_time.new.kept c.in-Ok.ensures.timed c.work_on.ensures.works

pub returns-in-Ok-clause-ended : goal.returns-in-Ok-clause-ended
returns-in-Ok-clause-ended g c =
    let busy : is_none c.args.kept.now.machine.ledger.state.client.current ≡ false =
    sym (rw (c.ledger.ensures, c.machine.ensures.value) at c.if-is_idle.ensures) in
    settles_ended g.D.Disk.disk g.D.Counted.seen c.args.kept.now c.work_on.new.kept c.work_on.result
    (g.N.Counted.seen c.args.net.now).calls (g.N.Counted.seen c.work_on.new.net).calls
    0 0 (worked busy c.note_time.new.kept c.in-Ok.ensures.timed c.work_on.ensures.works)

pub returns-in-Ok-clause-only : goal.returns-in-Ok-clause-only
returns-in-Ok-clause-only g c = works_both _ _ _ c.note_time.ensures.only c.work_on.ensures.only

pub returns-in-Err-clause-settles : goal.returns-in-Err-clause-settles
returns-in-Err-clause-settles g c =
    untimed c.in-Err.trouble c.in-Err.ensures.untimed refl refl

pub returns-in-Ok-clause-clock : goal.returns-in-Ok-clause-clock
returns-in-Ok-clause-clock g c = ended_all c.work_on.result _ c.in-Ok.ensures.clock
