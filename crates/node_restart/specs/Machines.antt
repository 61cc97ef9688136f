-- A server as the machine that its records give.
use Rattle.std.specs.Prelude.{◌≡◌, ℕ, Bool, true, false, List, Option, Some, None, is_ok}
use Rattle.frame_rules.specs.Whole.{whole}
use Rattle.kept_machine.specs.Machines.{Rules}
use Rattle.node_restart.specs.declared.did.Did.{Did}
use Rattle.node_restart.specs.declared.machine.Server.{Server}
use Rattle.node_restart.specs.declared.opening.Opening.{Opening}
use Rattle.node_restart.specs.Openings.{IsOpening, opening_record}
use Rattle.node_restart.specs.Frames.{Handed, IsOneFrame, frame_record}
use Rattle.node_restart.specs.Steps.{Takes, opened, role_of, settings_of, step_of}

-- the record is an opening's
pub record IsOpeningRecord (bytes : List ℕ) : Type 0 where
  pub opening : Opening
  pub is_opening : IsOpening opening
  pub is : bytes ≡ opening_record opening

-- the record is a frame's
pub record IsFrameRecord (bytes : List ℕ) : Type 0 where
  pub handed : Handed
  pub whole : IsOneFrame handed.frame
  pub is : bytes ≡ frame_record handed

-- it is the record of this server's opening, and the server stands before its first frame
pub record OpensServer (bytes : List ℕ) (s : Server) : Type 0 where
  pub is : bytes ≡ opening_record s.opening
  pub core : s.core ≡ opened s.opening

-- The record is a frame's, and its step was taken.
pub record StepsServer (bytes : List ℕ) (before now : Server) : Type 0 where
  pub handed : Handed
  pub whole : IsOneFrame handed.frame
  pub is : bytes ≡ frame_record handed
  pub step : now.core ≡ (step_of before.core handed.sender handed.frame).core
  pub opening : now.opening ≡ before.opening

-- the settings and the role are those of the opening
pub record IsSoundServer (s : Server) : Type 0 where
  pub is_opening : IsOpening s.opening
  pub settings : settings_of s.core ≡ s.opening.settings
  pub role : role_of s.core ≡ s.opening.role

abbrev pub server_rules : Rules Server
server_rules = record {
  is_opening = IsOpeningRecord;
  is_record = IsFrameRecord;
  opens = OpensServer;
  steps = StepsServer;
  is_same = λ a b. b ≡ a;
  wants_memory = λ bytes. ⊥;
  has_memory = λ s bytes. Unit {0};
  is_sound = IsSoundServer;
}

-- the record of what a server is handed: of bytes that are exactly one frame
abbrev pub record_if : Bool → Handed → Option (List ℕ)
record_if true h = Some (frame_record h)
record_if false h = None

abbrev pub record_of : Handed → Option (List ℕ)
record_of h = record_if (is_ok (whole h.frame)) h

-- the step of what a server was handed
abbrev pub TellsStep : Handed → (before now : Server) → Did → (out out_new : List ℕ) → Type 0
TellsStep h before now did out out_new = Takes (step_of before.core h.sender h.frame) now.core did out out_new
