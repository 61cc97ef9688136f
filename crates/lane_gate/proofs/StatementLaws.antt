-- What a proof that passes is a proof of.
use Rattle.std.proofs.Common.{◌≡◌, ℕ, inl, inr, List, ◌++◌, length, take, drop, take_at, drop_at, Option, Some, sym, ◌∙◌, ap, subst}
use Rattle.frame_rules.specs.Frames.{PlainBody}
use Rattle.lane_gate.specs.declared.statement.StatementHash.{StatementHash}
use Rattle.lane_gate.specs.declared.statement.Statement.{Statement}
use Rattle.lane_gate.specs.declared.row.GateRow.{GateRow}
use Rattle.lane_gate.specs.Statements.{PlainStatement, statement_hash}
use Rattle.lane_gate.specs.Passing.{NamesStatement, FitsKind}
use Rattle.lane_gate.specs.Gates.{row_at}
use Rattle.lane_gate.specs.Runs.{PassesProof, ProvesOneStatement}
use Rattle.lane_gate.proofs.PassingLaws.{bytes}

abbrev made_of : List ℕ → List ℕ → PlainStatement
made_of key part = record { key = key; part = part }

-- the same bytes are of the same key and public part
one-statement : (a b : PlainStatement) → length a.key ≡ 32 → length b.key ≡ 32 → a.key ++ a.part ≡ b.key ++ b.part → a ≡ b
one-statement a b la lb same =
    let key : a.key ≡ b.key = sym (take_at a.key a.part 32 la) ∙ ap (take 32) same ∙ take_at b.key b.part 32 lb in
    let part : a.part ≡ b.part = sym (drop_at a.key a.part 32 la) ∙ ap (drop 32) same ∙ drop_at b.key b.part 32 lb in
    ap (λ (k : List ℕ). made_of k a.part) key ∙ ap (λ (p : List ℕ). made_of b.key p) part

-- the hash that the row has is the one that is named
one-hash : (core client : PlainStatement) (w : PassesProof core client) →
    statement_hash core.key core.part ≡ statement_hash client.key client.part
one-hash core client w =
    let row : GateRow = row_at w.gate.rows w.sent.frame.lane in
    let row_has : Statement = record { serial = w.serial; hash = w.hash } in
    let of : ℕ = w.sent.frame.serial in
    let names : NamesStatement row.statement of w.sent.statement =
    subst (λ (body : PlainBody). FitsKind row of w.sent.statement body) w.proof w.passes.body in
    let noted : NamesStatement (Some row_has) of w.sent.statement =
    subst (λ (s : Option Statement). NamesStatement s of w.sent.statement) w.noted names in
    let named : NamesStatement (Some row_has) of (Some (statement_hash client.key client.part)) =
    subst (λ (s : Option StatementHash). NamesStatement (Some row_has) of s) w.named noted in
    sym w.cores ∙ named.0

pub proves-one-statement : ProvesOneStatement
proves-one-statement core client lc ll w = elim (bytes (core.key ++ core.part) (client.key ++ client.part)) [
  | inl same ↦ inl (one-statement core client lc ll same)
  | inr other ↦ inr (other, ap (λ (h : StatementHash). h.0) (one-hash core client w))
]
