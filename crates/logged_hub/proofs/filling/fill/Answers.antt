use Rattle.std.proofs.Common.{arith, ap, sym, ◌∙◌}
use Rattle.logged_hub.proofs.RecordLaws as laws
use Rattle.logged_hub.proofs.filling.fill.Goals as goal
use Rattle.logged_hub.proofs.filling.fill.Goals.{in-Some+else-is_empty+else-bytes-gt-RECORD_MAX+in-Ok, in_default}

pub returns-then-is_empty-clause-none : goal.returns-then-is_empty-clause-none
returns-then-is_empty-clause-none c none =
    absurd (laws.some c.args.entries.now c.loop-entry.entry-index c.entry-item.result c.in-Some.bytes.now c.loop-entry-test.true c.entry-item.is (sym c.in-Some.ensures) none)

pub returns-then-is_empty-clause-fault : goal.returns-then-is_empty-clause-fault
returns-then-is_empty-clause-fault c =
    laws.unsized c.args.entries.now c.loop-entry.entry-index c.entry-item.result c.in-Some.bytes.now c.loop-entry-test.true c.entry-item.is (sym c.in-Some.ensures)
    (laws.wrong_size c.is_empty.result c.in-Some.bytes.now c.is_empty.ensures c.then-is_empty.either)

pub returns-in_default-push-clause-none : goal.returns-in_default-push-clause-none
returns-in_default-push-clause-none c none =
    absurd (laws.some c.args.entries.now c.loop-entry.entry-index c.entry-item.result c.in-Some.bytes.now c.loop-entry-test.true c.entry-item.is (sym c.in-Some.ensures) none)

pub returns-in_default-push-clause-fault : goal.returns-in_default-push-clause-fault
returns-in_default-push-clause-fault c =
    laws.full c.args.entries.now c.loop-entry.entry-index c.entry-item.result c.in-Some.bytes.now c.loop-entry-test.true c.entry-item.is (sym c.in-Some.ensures)
    c.loop-entry.batch.records c.args.batch.now.room c.loop-entry.invariant.records (omega (arith, c.in_default-push.ensures.full, c.loop-entry.invariant.room))

pub loop-entry-preserved : goal.loop-entry-preserved
loop-entry-preserved c =
    elim c.match-record.branch [
      | in-Some+else-is_empty+else-bytes-gt-RECORD_MAX+in-Ok w ↦ record {
        records = ap (λ b. b.records) (w.batch-is ∙ w.in-Ok.ensures.pushed)
            ∙ laws.pushed c.args.entries.now c.loop-entry.entry-index c.entry-item.result w.in-Some.bytes.now c.loop-entry-test.true c.entry-item.is (sym w.in-Some.ensures)
            c.loop-entry.batch.records c.loop-entry.invariant.records;
        room = ap (λ b. b.room) (w.batch-is ∙ w.in-Ok.ensures.pushed) ∙ c.loop-entry.invariant.room;
      }
      | in_default w ↦ record {
        records = ap (λ b. b.records) w.batch-is ∙ c.loop-entry.invariant.records
            ∙ sym (laws.unnoted c.args.entries.now c.loop-entry.entry-index c.entry-item.result c.loop-entry-test.true c.entry-item.is (sym w.in_default.ensures));
        room = ap (λ b. b.room) w.batch-is ∙ c.loop-entry.invariant.room;
      }
    ]
