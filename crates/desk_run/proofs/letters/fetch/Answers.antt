use Rattle.std.proofs.Common.{◌∙◌, get_or, refl, subst, Option}
use Rattle.express_words.specs.declared.refusal.Refusal.{Refusal}
use Rattle.desk_ledger.specs.declared.task.Task.TheVariants.{Read}
use Rattle.desk_run.specs.Works.{DoesTask, unread}
use Rattle.desk_run.proofs.WorkLaws.{reads_all, reads_more}
use Rattle.desk_run.proofs.letters.fetch.Goals as goal

pub boxes-init : goal.boxes-init
boxes-init g c = record { faults = refl; sends = λ start on. on; reads = λ none. unread }

pub boxes-preserved : goal.boxes-preserved
boxes-preserved g c = record {
  faults = c.in_ok-answer.ensures.net ∙ c.boxes.invariant.faults;
  sends = λ start on. c.read_one.ensures.sends start (c.boxes.invariant.sends start on);
  reads = λ none. let both = c.last_of-refused.ensures.none none in reads_more c.args.ledger.now c.boxes.ledger c.read_one.new.ledger _ _ _ c.deref-own-items.result.now
      c.boxes.own-index (get_or c.deref-own-items.result.now c.boxes.own-index 0) 0 c.boxes-test.true refl
      (c.boxes.invariant.reads both.1)
      (subst (λ (r : Option Refusal). DoesTask (Read (get_or c.deref-own-items.result.now c.boxes.own-index 0)) r c.boxes.ledger
      c.read_one.new.ledger (g.N.Counted.seen c.boxes.net).calls (g.N.Counted.seen c.read_one.new.net).calls) both.0 c.in_ok-answer.ensures.reads);
}

pub returns-clause-reads : goal.returns-clause-reads
returns-clause-reads g c = record {
  live = c.deref-own-items.result.now;
  all = λ few. c.deref-own-items.ensures.value ∙ c.in_ok-live.ensures few;
  each = reads_all c.args.ledger.now c.boxes.ledger _ _ c.deref-own-items.result.now c.boxes.own-index c.boxes-test.false
      (c.boxes.invariant.reads c.in-None.is);
}
