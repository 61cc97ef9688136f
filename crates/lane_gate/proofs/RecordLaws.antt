-- The same records give the same gate.
use Rattle.std.proofs.Common.{◌≡◌, ℕ, List, [], ◌∷◌, sym, ◌∙◌, ap, subst}
use Rattle.kept_machine.specs.Machines.{Runs}
use Rattle.lane_gate.specs.Gates.{GateState, opened_gate, after_note}
use Rattle.lane_gate.specs.Machines.{gate_rules, OpensGate, StepsGate}
use Rattle.lane_gate.specs.Runs.{RecordsGiveOneGate}
use Rattle.lane_gate.specs.declared.opening.GateOpening.{GateOpening}
use Rattle.lane_gate.proofs.NoteLaws.{one_note, one_opening}

one-step : (bytes : List ℕ) (before a b : GateState) → StepsGate bytes before a → StepsGate bytes before b → a ≡ b
one-step bytes before a b sa sb =
    sa.step ∙ ap (after_note before) (one_note sa.note sb.note sa.whole sb.whole (sym sa.is ∙ sb.is)) ∙ sym sb.step

one-opened : (bytes : List ℕ) (a b : GateState) → OpensGate bytes a → OpensGate bytes b → a ≡ b
one-opened bytes a b oa ob =
    oa.opened
    ∙ ap (λ (o : GateOpening). opened_gate o.owners o.strangers) (one_opening oa.opening ob.opening oa.is_opening ob.is_opening (sym oa.is ∙ ob.is))
    ∙ sym ob.opened

one-run : (records : List (List ℕ)) (before a b : GateState) → Runs gate_rules before records a → Runs gate_rules before records b → a ≡ b
one-run [] before a b ra rb = ra ∙ sym rb
one-run (bytes ∷ records) before a b ra rb =
    let same : ra.0 ≡ rb.0 = one-step bytes before ra.0 rb.0 ra.1 rb.1 in
    one-run records rb.0 a b (subst (λ (g : GateState). Runs gate_rules g records a) same ra.2) rb.2

pub records-give-one-gate : RecordsGiveOneGate
records-give-one-gate records a b ga gb =
    let split : ga.form.first ∷ ga.form.later ≡ gb.form.first ∷ gb.form.later = sym ga.form.split ∙ gb.form.split in
    let first : ga.form.first ≡ gb.form.first = cc in
    let later : ga.form.later ≡ gb.form.later = cc in
    let opened : ga.opened ≡ gb.opened =
    one-opened gb.form.first ga.opened gb.opened (subst (λ (bytes : List ℕ). OpensGate bytes ga.opened) first ga.opens) gb.opens in
    let from : Runs gate_rules gb.opened ga.form.later ga.stepped =
    subst (λ (g : GateState). Runs gate_rules g ga.form.later ga.stepped) opened ga.runs in
    let stepped : ga.stepped ≡ gb.stepped =
    one-run gb.form.later gb.opened ga.stepped gb.stepped (subst (λ (rs : List (List ℕ)). Runs gate_rules gb.opened rs ga.stepped) later from) gb.runs in
    ga.same ∙ stepped ∙ sym gb.same
