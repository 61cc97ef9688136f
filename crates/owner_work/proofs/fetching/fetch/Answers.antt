use Rattle.std.proofs.Common.{◌∙◌, get_or, refl}
use Rattle.std.proofs.lemmas.Result.{err_from_is_err_and}
use Rattle.owner_work.specs.Works.{StopsReading, unlisted, unread, unread_at}
use Rattle.owner_work.proofs.OnlyLaws.{nothing_works, works_both}
use Rattle.owner_work.proofs.ReadsLaws.{reads_live, reads_more}
use Rattle.owner_work.proofs.SettleLaws.{stopped}
use Rattle.owner_work.proofs.StopLaws.{does_since}
use Rattle.desk_around.specs.declared.trouble.Trouble.{Trouble}
use Rattle.kept_ledger.specs.declared.task.Task.TheVariants.{Read}
use Rattle.owner_work.proofs.fetching.fetch.Goals as goal

pub returns-in_default-clause-only : goal.returns-in_default-clause-only
returns-in_default-clause-only g c = nothing_works _ _ refl

pub returns-in_default-clause-stops : goal.returns-in_default-clause-stops
returns-in_default-clause-stops g c = unlisted refl refl refl

pub boxes-init : goal.boxes-init
boxes-init g c = record {
  faults = refl;
  sends = λ start on. on;
  clock = refl;
  only = nothing_works _ _ refl;
  reads = unread;
}

pub boxes-preserved : goal.boxes-preserved
boxes-preserved g c = record {
  faults = c.in_ok-answer.ensures.reached ∙ c.boxes.invariant.faults;
  sends = λ start on. c.read_one.ensures.sends start (c.boxes.invariant.sends start on);
  clock = c.in_ok-answer.ensures.clock ∙ c.boxes.invariant.clock;
  only = works_both _ _ _ c.boxes.invariant.only c.read_one.ensures.only;
  reads = reads_more g.D.Disk.disk g.D.Counted.seen c.args.kept.now (g.N.Counted.seen c.args.net.now).calls
      c.boxes.kept c.read_one.new.kept _ _ c.deref-own-items.result.now c.boxes.own-index
      (get_or c.deref-own-items.result.now c.boxes.own-index 0) 0 _ _ _ c.boxes-test.true refl
      c.last_of-refused.ensures c.boxes.invariant.reads c.in_ok-answer.ensures.reads;
}

pub returns-in-Some-clause-reads : goal.returns-in-Some-clause-reads
returns-in-Some-clause-reads g c =
    let all = rw (c.ledger.ensures, c.machine.ensures.value) at c.in-Ok.ensures in
    reads_live g.D.Disk.disk g.D.Counted.seen c.args.kept.now (g.N.Counted.seen c.args.net.now).calls
    c.boxes.kept _ c.deref-own-items.result.now c.boxes.own-index _ _
    (λ few. c.deref-own-items.ensures.value ∙ all few) c.boxes-test.false c.in-Some.is
    c.boxes.invariant.reads

pub returns-clause-reads : goal.returns-clause-reads
returns-clause-reads g c =
    let all = rw (c.ledger.ensures, c.machine.ensures.value) at c.in-Ok.ensures in
    reads_live g.D.Disk.disk g.D.Counted.seen c.args.kept.now (g.N.Counted.seen c.args.net.now).calls
    c.boxes.kept _ c.deref-own-items.result.now c.boxes.own-index _ _
    (λ few. c.deref-own-items.ensures.value ∙ all few) c.boxes-test.false c.in-None.is
    c.boxes.invariant.reads

pub returns-in_err-answer-clause-only : goal.returns-in_err-answer-clause-only
returns-in_err-answer-clause-only g c = works_both _ _ _ c.boxes.invariant.only c.read_one.ensures.only

pub returns-in_err-answer-clause-stops : goal.returns-in_err-answer-clause-stops
returns-in_err-answer-clause-stops g c =
    let all = rw (c.ledger.ensures, c.machine.ensures.value) at c.in-Ok.ensures in
    let own = get_or c.deref-own-items.result.now c.boxes.own-index 0 in
    let p = err_from_is_err_and c.from_residual.result c.from_residual.ensures.1 in
    rw (p.1, p.2) (stopped (Unit {0}) _ (λ (t : Trouble). StopsReading g.D.Disk.disk g.D.Counted.seen t c.args.kept.now
    c.read_one.new.kept (g.N.Counted.seen c.args.net.now).calls (g.N.Counted.seen c.read_one.new.net).calls
    (g.C.Counted.seen c.args.clock.now).faults (g.C.Counted.seen c.read_one.new.clock).faults)
    (unread_at c.deref-own-items.result.now (λ few. c.deref-own-items.ensures.value ∙ all few) c.boxes.own-index
    c.boxes-test.true c.boxes.refused c.boxes.kept (g.N.Counted.seen c.boxes.net).calls c.boxes.invariant.reads
    (does_since g.D.Disk.disk g.D.Counted.seen (Read own) c.boxes.kept c.read_one.new.kept _ _ _ _ _ _
    c.boxes.invariant.clock c.in_err-answer.ensures.stops)))
