use Rattle.std.proofs.Common.{◌≢◌, [], ◌∷◌, List, ℕ, subst, sym}
use Rattle.std.proofs.lemmas.Result.{on_ok_weaker}
use Rattle.node_journal.specs.Batches.{Spells}
use Rattle.node_journal.proofs.BatchLaws.{spells_batch}
use Rattle.node_journal.proofs.append.put_all.Goals as goal

pub returns-clause-added : goal.returns-clause-added
returns-clause-added g c =
    let records = c.args.batch.now.records in
    let some : records ≢ [] = λ none. let empty = (c.is_empty.ensures).1 none in cc in
    let spells = subst (λ (l : List ℕ). Spells records l) (sym c.behind_gate.ensures.value) (spells_batch records some) in
    on_ok_weaker c.put_batch.result (λ done. done records c.behind_gate.ensures.sized spells) c.put_batch.ensures.added

pub returns-clause-any_moment : goal.returns-clause-any_moment
returns-clause-any_moment g c =
    let records = c.args.batch.now.records in
    let some : records ≢ [] = λ none. let empty = (c.is_empty.ensures).1 none in cc in
    let spells = subst (λ (l : List ℕ). Spells records l) (sym c.behind_gate.ensures.value) (spells_batch records some) in
    c.put_batch.ensures.any_moment records c.behind_gate.ensures.sized spells
