-- A client read from what holds it.
use Rattle.std.specs.Prelude.{◌≡◌, ℕ, ◌+◌, ◌^◌, ◌<◌, ◌≤◌, length, map, option_map, IfSome, vec_capacity}
use Rattle.express_words.specs.Limits.{IsWidth, levels_len}
use Rattle.dpf_rules.specs.Expansion.{choice}
use Rattle.step_rules.specs.Client.{Client, Current, Owned}
use Rattle.step_rules.specs.ClientAsks.{server_of}
use Rattle.client_core.specs.declared.state.KeyedBox.{KeyedBox}
use Rattle.client_core.specs.declared.state.ClientState.{ClientState}
use Rattle.client_core.specs.declared.stage.CurrentStep.{CurrentStep}
use Rattle.client_core.specs.Stages.{current_in, Basis, IsStage}

abbrev pub owned_in : KeyedBox → Owned
owned_in o = record { number = o.number; key0 = o.key0; key1 = o.key1 }

abbrev pub client_in : ClientState → Client
client_in s = record {
  lane = s.lane;
  seed = s.seed;
  width = s.width;
  capacity = s.capacity;
  owned = map owned_in s.owned.items;
  serial = s.serial;
  current = option_map (λ stage. current_in stage s.message.items) s.stage;
}

-- the request and the step of this stage
abbrev pub current_at : ClientState → CurrentStep → Current
current_at s stage = current_in stage s.message.items

-- the server that its frame goes to
abbrev pub server_at : ClientState → CurrentStep → ℕ
server_at s stage = server_of (current_at s stage).step

abbrev pub held_in : ClientState → Basis
held_in s = record {
  owned = length s.owned.items;
  capacity = s.capacity;
  message = s.message.items;
  part = s.part.items;
  root0 = choice s.seed s.serial 0;
  root1 = choice s.seed s.serial 1;
}

-- the current request has a serial, and rests on what is held
pub record IsCurrent (s : ClientState) (stage : CurrentStep) : Type 0 where
  pub unspent : s.serial < 2 ^ 32
  pub is_stage : IsStage (held_in s) stage

-- the room that is taken at opening, and the current request
pub record IsState (s : ClientState) : Type 0 where
  pub width : IsWidth s.width
  pub message : length s.message.items ≡ s.width
  pub part : length s.part.items ≡ levels_len + s.width
  pub within : length s.owned.items ≤ s.capacity
  pub room : s.capacity ≤ vec_capacity s.owned
  pub first : 1 ≤ s.serial
  pub last : s.serial ≤ 2 ^ 32
  pub current : IfSome s.stage (IsCurrent s)
