use Rattle.std.proofs.Common.{◌≡◌, ℕ, take, ap, ◌∙◌, subst}
use Rattle.node_journal.specs.Journal.{JournalState}
use Rattle.node_journal.specs.Records.{IsUndamaged}
use Rattle.kept_machine.specs.Kept.{IsDamagedAt}
use Rattle.kept_machine.specs.Replays.{StandsFirst}
use Rattle.kept_machine.proofs.FaultLaws.{on_foreign, on_damaged, on_no_memory}
use Rattle.kept_machine.proofs.KeptLaws.{ends_foreign, ends_damaged, holds_whole}
use Rattle.kept_machine.proofs.judging.judge.Goals as goal

pub returns-in-Ok-first_record-clause-foreign : goal.returns-in-Ok-first_record-clause-foreign
returns-in-Ok-first_record-clause-foreign g c =
    let reads = (g.D.Disk.disk c.first_record.new.disk).reads in
    let first = take c.in-Ok-first_record.field-0 c.first_record.new.room in
    let stands : StandsFirst first c.first_record.new.journal.end reads =
    λ d read. c.in-Ok-first_record.ensures.first d (c.first_record.ensures.untouched.gives d read) in
    on_foreign c.judge_records.result _ _
    (λ n ends d read.
    ends_foreign g.M.Machine.rules n c.first_record.new.journal.end first reads c.in-Ok-first_record.ensures.opening stands ends d
    (c.first_record.ensures.untouched.still d (c.open.ensures.untouched.still d read)))
    c.judge_records.ensures.foreign

pub returns-in-Ok-first_record-clause-damaged : goal.returns-in-Ok-first_record-clause-damaged
returns-in-Ok-first_record-clause-damaged g c =
    let reads = (g.D.Disk.disk c.first_record.new.disk).reads in
    let first = take c.in-Ok-first_record.field-0 c.first_record.new.room in
    let stands : StandsFirst first c.first_record.new.journal.end reads =
    λ d read. c.in-Ok-first_record.ensures.first d (c.first_record.ensures.untouched.gives d read) in
    let same : c.first_record.new.journal.limit ≡ c.args.limit =
    c.in-Ok-first_record.ensures.reading.same_limit ∙ ap (λ (j : JournalState). j.limit) c.in-Ok.ensures.made in
    on_damaged c.judge_records.result _ _
    (λ n ends d read.
    subst (λ (limit : ℕ). IsDamagedAt g.M.Machine.rules limit n d) same
    (ends_damaged g.M.Machine.rules c.first_record.new.journal.limit n c.first_record.new.journal.end first reads c.in-Ok-first_record.ensures.opening stands ends d
    (c.first_record.ensures.untouched.still d (c.open.ensures.untouched.still d read))))
    c.judge_records.ensures.damaged

pub returns-in-Ok-first_record-clause-no_memory : goal.returns-in-Ok-first_record-clause-no_memory
returns-in-Ok-first_record-clause-no_memory g c =
    let reads = (g.D.Disk.disk c.first_record.new.disk).reads in
    let first = take c.in-Ok-first_record.field-0 c.first_record.new.room in
    let stands : StandsFirst first c.first_record.new.journal.end reads =
    λ d read. c.in-Ok-first_record.ensures.first d (c.first_record.ensures.untouched.gives d read) in
    let same : c.first_record.new.journal.limit ≡ c.args.limit =
    c.in-Ok-first_record.ensures.reading.same_limit ∙ ap (λ (j : JournalState). j.limit) c.in-Ok.ensures.made in
    on_no_memory c.judge_records.result _ _ _
    (λ whole undamaged.
    let all = holds_whole g.M.Machine.rules first c.first_record.new.journal.end reads c.in-Ok-first_record.ensures.opening stands whole in
    record {
      records = all.0;
      form = all.1;
      held = λ d read. all.2 d (c.first_record.ensures.untouched.still d (c.open.ensures.untouched.still d read));
      undamaged = λ d read. subst (λ (limit : ℕ). IsUndamaged limit 0 d) same (undamaged d (c.first_record.ensures.untouched.still d (c.open.ensures.untouched.still d read)));
    })
    c.judge_records.ensures.whole c.judge_records.ensures.undamaged
