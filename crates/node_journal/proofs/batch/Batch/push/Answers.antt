use Rattle.std.proofs.Common.{◌≡◌, ◌≤◌, ◌+◌, ◌∷◌, ◌++◌, [], List, ℕ, ◌∙◌, ap, arith, length, subst, sym, take}
use Rattle.node_journal.specs.Batches.{BatchState, IsSpelled, with_record}
use Rattle.node_journal.specs.Records.{content}
use Rattle.node_journal.proofs.BatchLaws.{spelled_content, spelled_put}
use Rattle.node_journal.proofs.batch.Batch.push.Goals as goal

abbrev batch_of : List (List ℕ) → ℕ → BatchState
batch_of records room = record { records = records; room = room }

pub invariant_of-self : goal.invariant_of-self
invariant_of-self c =
    let bytes = c.args.bytes.now in
    let used = c.self.inside.used in
    let items = c.self.inside.room.items in
    let put = c.put_at-2.new.room.items in
    let fits : used + 5 + length bytes ≤ length items = omega (arith, c.if-len-self.false, c.len.ensures, c.self.invariant.1) in
    let spelled = spelled_put (content (take used items)) used bytes items c.put_at.new.room.items c.stage-staged.result.now put c.self.invariant.0 c.self.invariant.1 c.requires.sized fits c.put_at.ensures.put c.stage-staged.ensures c.put_at-2.ensures.put in
    let taken = take (used + (5 + length bytes)) put in
    (subst (λ (records : List (List ℕ)). IsSpelled records taken) (sym (spelled_content (content (take used items) ++ bytes ∷ []) taken spelled)) spelled, omega (arith, fits, c.put_at.ensures.length, c.put_at-2.ensures.length))

pub returns-clause-pushed : goal.returns-clause-pushed
returns-clause-pushed c =
    let bytes = c.args.bytes.now in
    let used = c.self.inside.used in
    let items = c.self.inside.room.items in
    let put = c.put_at-2.new.room.items in
    let fits : used + 5 + length bytes ≤ length items = omega (arith, c.if-len-self.false, c.len.ensures, c.self.invariant.1) in
    let spelled = spelled_put (content (take used items)) used bytes items c.put_at.new.room.items c.stage-staged.result.now put c.self.invariant.0 c.self.invariant.1 c.requires.sized fits c.put_at.ensures.put c.stage-staged.ensures c.put_at-2.ensures.put in
    let records = spelled_content (content (take used items) ++ bytes ∷ []) (take (used + (5 + length bytes)) put) spelled in
    let room : length put ≡ length items = omega (arith, c.put_at.ensures.length, c.put_at-2.ensures.length) in
    ap (λ (r : List (List ℕ)). batch_of r (length put)) records
    ∙ ap (λ (n : ℕ). batch_of (content (take used items) ++ bytes ∷ []) n) room
    ∙ ap (λ (b : BatchState). with_record bytes b) c.self.view_is
