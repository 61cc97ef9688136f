use Rattle.std.proofs.Common.{◌≡◌, ℕ, take, ap, ◌∙◌, subst}
use Rattle.node_journal.specs.Journal.{JournalState}
use Rattle.kept_machine.specs.Kept.{IsDamagedAt}
use Rattle.kept_machine.specs.Replays.{StandsFirst}
use Rattle.kept_machine.proofs.FaultLaws.{on_foreign, on_damaged}
use Rattle.kept_machine.proofs.KeptLaws.{ends_foreign, ends_damaged, stands_all}
use Rattle.kept_machine.proofs.reopening.restore.Goals as goal

pub returns-in-Ok-replay-clause-stands : goal.returns-in-Ok-replay-clause-stands
returns-in-Ok-replay-clause-stands g c =
    let reads = (g.D.Disk.disk c.first_record.new.disk).reads in
    let first = take c.in-Ok-first_record.len c.first_record.new.room in
    let stands : StandsFirst first c.first_record.new.journal.end reads =
    λ d read. c.in-Ok-first_record.ensures.first d (c.first_record.ensures.untouched.gives d read) in
    let all = stands_all g.M.Machine.rules first c.first_record.new.journal.end c.in-Ok-open.machine c.replay.new.machine reads g.met.M.Machine.rules_hold
    c.in-Ok-first_record.ensures.opening c.in-Ok-open.ensures.opens stands c.in-Ok-replay.ensures.all in
    record {
      records = all.records;
      gives = all.gives;
      held = λ d read. all.held d (c.first_record.ensures.untouched.still d (c.open.ensures.untouched.still d read));
    }

pub returns-in-Err-replay-clause-foreign : goal.returns-in-Err-replay-clause-foreign
returns-in-Err-replay-clause-foreign g c =
    let reads = (g.D.Disk.disk c.first_record.new.disk).reads in
    let first = take c.in-Ok-first_record.len c.first_record.new.room in
    let stands : StandsFirst first c.first_record.new.journal.end reads =
    λ d read. c.in-Ok-first_record.ensures.first d (c.first_record.ensures.untouched.gives d read) in
    on_foreign c.in-Err-replay.fault _ _
    (λ n ends d read.
    ends_foreign g.M.Machine.rules n c.first_record.new.journal.end first reads c.in-Ok-first_record.ensures.opening stands ends d
    (c.first_record.ensures.untouched.still d (c.open.ensures.untouched.still d read)))
    c.in-Err-replay.ensures.foreign

pub returns-in-Err-replay-clause-damaged : goal.returns-in-Err-replay-clause-damaged
returns-in-Err-replay-clause-damaged g c =
    let reads = (g.D.Disk.disk c.first_record.new.disk).reads in
    let first = take c.in-Ok-first_record.len c.first_record.new.room in
    let stands : StandsFirst first c.first_record.new.journal.end reads =
    λ d read. c.in-Ok-first_record.ensures.first d (c.first_record.ensures.untouched.gives d read) in
    let same : c.first_record.new.journal.limit ≡ c.args.limit =
    c.in-Ok-first_record.ensures.reading.same_limit ∙ ap (λ (j : JournalState). j.limit) c.in-Ok.ensures.made in
    on_damaged c.in-Err-replay.fault _ _
    (λ n ends d read.
    subst (λ (limit : ℕ). IsDamagedAt g.M.Machine.rules limit n d) same
    (ends_damaged g.M.Machine.rules c.first_record.new.journal.limit n c.first_record.new.journal.end first reads c.in-Ok-first_record.ensures.opening stands ends d
    (c.first_record.ensures.untouched.still d (c.open.ensures.untouched.still d read))))
    c.in-Err-replay.ensures.damaged
