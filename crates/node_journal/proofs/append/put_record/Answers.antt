use Rattle.std.proofs.Common.{[], ◌∷◌, List, ℕ, subst}
use Rattle.std.proofs.lemmas.Result.{on_ok_weaker}
use Rattle.node_journal.specs.Batches.{RestsBeforeOrAll}
use Rattle.node_journal.specs.Records.{EndsAt, RestsBeforeOrAfter}
use Rattle.node_journal.proofs.Moments.{widened}
use Rattle.node_journal.proofs.Singles.{place_one, rests_one, spells_one}
use Rattle.node_journal.proofs.append.put_record.Goals as goal

pub returns-clause-any_moment : goal.returns-clause-any_moment
returns-clause-any_moment g c =
    let D = g.D.Disk in
    let old = D.disk c.args.disk.now in
    let bytes = c.args.bytes.now in
    let spells = spells_one bytes c.stage-staged.result.now c.stage-staged.ensures in
    widened old (D.disk c.put_batch.new.disk) (RestsBeforeOrAll old.reads c.args.end (bytes ∷ []))
    (RestsBeforeOrAfter old.reads c.args.end bytes)
    (c.put_batch.ensures.any_moment (bytes ∷ []) (c.requires.sized, tt) spells) (rests_one old.reads c.args.end bytes)

pub returns-clause-added : goal.returns-clause-added
returns-clause-added g c =
    let bytes = c.args.bytes.now in
    let spells = spells_one bytes c.stage-staged.result.now c.stage-staged.ensures in
    on_ok_weaker c.put_batch.result (λ done f read.
    let is = done (bytes ∷ []) (c.requires.sized, tt) spells f read in
    (subst (λ (at : ℕ). EndsAt at f) (place_one c.args.end bytes) is.0, is.1)) c.put_batch.ensures.added
