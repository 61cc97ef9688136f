-- A leader's gate as the machine that its records give.
use Rattle.std.proofs.Common.{refl, ◌∙◌, subst}
use Rattle.std.specs.Prelude.{◌≡◌, ℕ, List, Result}
use Rattle.kept_machine.specs.Machines.{Rules, RulesHold}
use Rattle.lane_gate.specs.declared.opening.GateOpening.{GateOpening}
use Rattle.lane_gate.specs.Gates.{after_note}
use Rattle.lane_gate.specs.Machines.{IsOpeningRecord}
use Rattle.lane_gate.specs.Openings.{IsGateOpening, opening_record}
use Rattle.lane_leases.specs.declared.ask.Announced.{Announced}
use Rattle.lane_leases.specs.declared.fault.UsedUp.{UsedUp}
use Rattle.lane_leases.specs.declared.record.LeaderNote.{LeaderNote}
use Rattle.lane_leases.specs.declared.record.LeaderNote.TheVariants as leader
use Rattle.lane_leases.specs.Leases.{LeasesState, IsTold, opened_leases, with_gate, with_end}
use Rattle.lane_leases.specs.Records.{IsLeaderNote, leader_record}

-- the record is a note's
pub record IsLeaderRecord (bytes : List ℕ) : Type 0 where
  pub note : LeaderNote
  pub whole : IsLeaderNote note
  pub is : bytes ≡ leader_record note

-- it is the record of this gate's opening
pub record OpensLeases (bytes : List ℕ) (leases : LeasesState) : Type 0 where
  pub opening : GateOpening
  pub is_opening : IsGateOpening opening
  pub is : bytes ≡ opening_record opening
  pub opened : leases ≡ opened_leases opening.owners opening.strangers

-- what a note makes of it
abbrev pub IsStepOf : LeaderNote → (before now : LeasesState) → Type 0
IsStepOf (leader.Row note) before now = now ≡ with_gate before (after_note before.gate note)
IsStepOf (leader.Asked ask) before now = (told : Result Announced UsedUp) × IsTold before ask told now
IsStepOf (leader.Ended ended) before now = now ≡ with_end before ended

-- it is a note's, which makes the second of the first
pub record StepsLeases (bytes : List ℕ) (before now : LeasesState) : Type 0 where
  pub note : LeaderNote
  pub whole : IsLeaderNote note
  pub is : bytes ≡ leader_record note
  pub step : IsStepOf note before now

abbrev pub leader_rules : Rules LeasesState
leader_rules = record {
  is_opening = IsOpeningRecord;
  is_record = IsLeaderRecord;
  opens = OpensLeases;
  steps = StepsLeases;
  is_same = λ a b. b ≡ a;
  wants_memory = λ bytes. ⊥;
  has_memory = λ leases bytes. Unit {0};
  is_sound = λ leases. Unit {0};
}

pub leader_rules_hold : RulesHold leader_rules
leader_rules_hold = record {
  itself = λ a. refl;
  then_same = λ a b c first second. second ∙ first;
  then_steps = λ bytes a b c same steps. subst (λ (l : LeasesState). StepsLeases bytes l c) same steps;
}
