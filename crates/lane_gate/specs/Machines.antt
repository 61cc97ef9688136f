-- A gate as the machine that its records give.
use Rattle.std.proofs.Common.{refl, ◌∙◌, subst}
use Rattle.std.specs.Prelude.{◌≡◌, ℕ, List}
use Rattle.kept_machine.specs.Machines.{Rules, RulesHold}
use Rattle.lane_gate.specs.declared.note.Note.{Note}
use Rattle.lane_gate.specs.declared.opening.GateOpening.{GateOpening}
use Rattle.lane_gate.specs.Gates.{GateState, opened_gate, after_note}
use Rattle.lane_gate.specs.Notes.{IsNote, note_record}
use Rattle.lane_gate.specs.Openings.{IsGateOpening, opening_record}

-- the record is an opening's
pub record IsOpeningRecord (bytes : List ℕ) : Type 0 where
  pub opening : GateOpening
  pub is_opening : IsGateOpening opening
  pub is : bytes ≡ opening_record opening

-- the record is a note's
pub record IsNoteRecord (bytes : List ℕ) : Type 0 where
  pub note : Note
  pub whole : IsNote note
  pub is : bytes ≡ note_record note

-- it is the record of this gate's opening
pub record OpensGate (bytes : List ℕ) (gate : GateState) : Type 0 where
  pub opening : GateOpening
  pub is_opening : IsGateOpening opening
  pub is : bytes ≡ opening_record opening
  pub opened : gate ≡ opened_gate opening.owners opening.strangers

-- it is a note's, which makes the second gate of the first
pub record StepsGate (bytes : List ℕ) (before now : GateState) : Type 0 where
  pub note : Note
  pub whole : IsNote note
  pub is : bytes ≡ note_record note
  pub step : now ≡ after_note before note

abbrev pub gate_rules : Rules GateState
gate_rules = record {
  is_opening = IsOpeningRecord;
  is_record = IsNoteRecord;
  opens = OpensGate;
  steps = StepsGate;
  is_same = λ a b. b ≡ a;
  wants_memory = λ bytes. ⊥;
  has_memory = λ gate bytes. Unit {0};
  is_sound = λ gate. Unit {0};
}

pub gate_rules_hold : RulesHold gate_rules
gate_rules_hold = record {
  itself = λ a. refl;
  then_same = λ a b c first second. second ∙ first;
  then_steps = λ bytes a b c same steps. subst (λ (g : GateState). StepsGate bytes g c) same steps;
}
