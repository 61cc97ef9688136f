use Rattle.std.proofs.Common.{Ok, ℕ, List, Option, ap, sym, ◌∙◌, subst}
use Rattle.node_journal.specs.Journal.{JournalState}
use Rattle.kept_machine.specs.Keeps.{Keeps, KeepsInput, sight}
use Rattle.kept_machine.specs.Kept.{KeptState, Stands}
use Rattle.kept_machine.proofs.JournalLaws.{leaves_only, leaves_records, undamaged_now}
use Rattle.kept_machine.proofs.KeptLaws.{holds_push, stands_push, stands_same}
use Rattle.kept_machine.proofs.kept.take.Goals as goal

pub invariant_of-kept-in-Ok : goal.invariant_of-kept-in-Ok
invariant_of-kept-in-Ok g c =
    let D = g.D.Disk in
    let rules = g.M.Machine.rules in
    let hold = g.met.M.Machine.rules_hold in
    let bytes = c.in-Some.record.now in
    let notes = c.in-Ok.ensures.notes in
    record {
      sound = c.take-in-Ok.ensures.sound;
      ready = c.note.ensures.ready;
      in_place = c.note.ensures.in_place;
      stands = λ still.
          stands_push rules c.kept.inside.machine c.take-in-Ok.new.self bytes (D.disk c.kept.inside.disk).reads (D.disk c.note.new.disk).reads hold
          (c.kept.invariant.stands (sym (ap (λ (j : JournalState). j.closed) notes.longer) ∙ still)) c.in-Some.ensures.is
          (hold.then_steps bytes c.kept.inside.machine c.note.new.machine c.take-in-Ok.new.self notes.same (c.take-in-Ok.ensures.steps bytes c.in-Some.ensures.some))
          notes.added;
    }

pub invariant_of-kept-in-Err : goal.invariant_of-kept-in-Err
invariant_of-kept-in-Err g c =
    let D = g.D.Disk in
    let notes = c.in-Err.ensures.notes in
    record {
      sound = c.note.ensures.sound;
      ready = c.note.ensures.ready;
      in_place = c.note.ensures.in_place;
      stands = λ still.
          let same = notes.unbroken still in
          subst (λ (d : g.row.D.Denot). Stands g.M.Machine.rules c.note.new.machine (D.disk d).reads) (sym same.1)
          (stands_same g.M.Machine.rules c.kept.inside.machine c.note.new.machine (D.disk c.kept.inside.disk).reads g.met.M.Machine.rules_hold notes.same
          (c.kept.invariant.stands (sym (ap (λ (j : JournalState). j.closed) same.0) ∙ still)));
    }

pub returns-in-Ok-clause-keeps : goal.returns-in-Ok-clause-keeps
returns-in-Ok-clause-keeps g c =
    let D = g.D.Disk in
    let rules = g.M.Machine.rules in
    let hold = g.met.M.Machine.rules_hold in
    let bytes = c.in-Some.record.now in
    let notes = c.in-Ok.ensures.notes in
    let new : KeptState g.row.M.Denot g.row.D.Denot = record { machine = c.take-in-Ok.new.self; journal = c.note.new.journal; disk = c.note.new.disk } in
    let keeps =
    subst (λ (k : KeptState g.row.M.Denot g.row.D.Denot). Keeps rules bytes (sight D.disk g.D.Counted.seen k) (sight D.disk g.D.Counted.seen new) (Ok c.take-in-Ok.result)) c.kept.view_is
    (record {
      step = hold.then_steps bytes c.kept.inside.machine c.note.new.machine c.take-in-Ok.new.self notes.same (c.take-in-Ok.ensures.steps bytes c.in-Some.ensures.some);
      no_step = tt;
      added = λ records held. holds_push records bytes (D.disk c.kept.inside.disk).reads (D.disk c.note.new.disk).reads held notes.added;
      longer = notes.longer;
      any_moment = λ still records held.
          leaves_only (D.disk c.kept.inside.disk) (D.disk c.note.new.disk) _ _
          (leaves_records c.kept.inside.journal.limit records bytes (D.disk c.kept.inside.disk).reads held) (notes.any_moment still);
      judged = record {
        closed = λ closed. let no = notes.judged.closed closed in absurd (cc no);
        full = λ still lacks. let no = notes.judged.full still lacks in absurd (cc no);
        memory = λ e. absurd (cc e);
        fits = λ some still fits. (tt, tt);
      };
      counts = c.in-Ok.ensures.counts;
    }) in
    subst (λ (r : Option (List ℕ)). KeepsInput rules D.disk g.D.Counted.seen r c.args.kept.now new (Ok c.take-in-Ok.result)) (sym c.in-Some.ensures.some) keeps

pub returns-in-Ok-clause-tells : goal.returns-in-Ok-clause-tells
returns-in-Ok-clause-tells g c =
    subst (λ (k : KeptState g.row.M.Denot g.row.D.Denot). g.M.Takes.tells c.args.input.now k.machine c.take-in-Ok.new.self c.take-in-Ok.result c.args.out.now c.take-in-Ok.new.out) c.kept.view_is
    (g.met.M.Takes.tells_of_same c.args.input.now c.kept.inside.machine c.note.new.machine c.take-in-Ok.new.self c.take-in-Ok.result c.args.out.now c.take-in-Ok.new.out
    c.in-Ok.ensures.notes.same c.take-in-Ok.ensures.tells)

pub returns-in-Ok-clause-durable : goal.returns-in-Ok-clause-durable
returns-in-Ok-clause-durable g c still =
    let D = g.D.Disk in
    let notes = c.in-Ok.ensures.notes in
    let rules = g.M.Machine.rules in
    let hold = g.met.M.Machine.rules_hold in
    let bytes = c.in-Some.record.now in
    record {
      stands = stands_push rules c.kept.inside.machine c.take-in-Ok.new.self bytes (D.disk c.kept.inside.disk).reads (D.disk c.note.new.disk).reads hold
          (c.kept.invariant.stands (sym (ap (λ (j : JournalState). j.closed) notes.longer) ∙ still)) c.in-Some.ensures.is
          (hold.then_steps bytes c.kept.inside.machine c.note.new.machine c.take-in-Ok.new.self notes.same (c.take-in-Ok.ensures.steps bytes c.in-Some.ensures.some))
          notes.added;
      durable = (c.note.ensures.in_place still).durable;
      undamaged = undamaged_now c.note.new.journal (D.disk c.note.new.disk) (c.note.ensures.in_place still) c.note.ensures.ready;
    }

pub returns-in-Err-clause-durable : goal.returns-in-Err-clause-durable
returns-in-Err-clause-durable g c still =
    let D = g.D.Disk in
    let notes = c.in-Err.ensures.notes in
    let same = notes.unbroken still in
    record {
      stands = subst (λ (d : g.row.D.Denot). Stands g.M.Machine.rules c.note.new.machine (D.disk d).reads) (sym same.1)
          (stands_same g.M.Machine.rules c.kept.inside.machine c.note.new.machine (D.disk c.kept.inside.disk).reads g.met.M.Machine.rules_hold notes.same
          (c.kept.invariant.stands (sym (ap (λ (j : JournalState). j.closed) same.0) ∙ still)));
      durable = (c.note.ensures.in_place still).durable;
      undamaged = undamaged_now c.note.new.journal (D.disk c.note.new.disk) (c.note.ensures.in_place still) c.note.ensures.ready;
    }
