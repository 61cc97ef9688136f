-- Where a client's lane stands: the step of its client and its rows at both servers come from one stage.
use Rattle.std.specs.Prelude.{◌≡◌, ℕ, zero, suc, ◌+◌, ◌-◌, ◌*◌, ◌<◌, Bool, true, false}
use Rattle.mailbox_rules.specs.Requests.{Audits, Begins, Command, Settles}
use Rattle.token_rules.specs.Tokens.{Audited, Auditing, Begun, Challenged, Deposited, Done, Idle, Lane, Phase}
use Rattle.token_rules.specs.Tokens.{Proved, Waiting}
use Rattle.token_rules.specs.Rows.{carried_phase}

-- The stages of a request, in order. What stands between Opened and Served comes in a write alone.
-- Asked: the client has the request. Noted: the helper has its deposit. Heard: the client knows of it.
-- Opening: the leader issued the opening command. Opened: the helper carried it out.
-- Invited: the leader acknowledged a begin. Proving: the client has the challenge.
-- Shown: the helper has the proof. Trusted: the client knows of it.
-- Checking: the audit was issued. Checked: it was carried out.
-- Settling: the settle was issued. Settled: it was carried out.
-- Served: the leader acknowledged the last command. Rested: the client has its outcome, or was never asked.
pub data Stage : Type 0 where
  Asked : Stage
  Noted : Stage
  Heard : Stage
  Opening : Stage
  Opened : Stage
  Invited : Stage
  Proving : Stage
  Shown : Stage
  Trusted : Stage
  Checking : Stage
  Checked : Stage
  Settling : Stage
  Settled : Stage
  Served : Stage
  Rested : Stage

abbrev pub rank : Stage → ℕ
rank Asked = 1
rank Noted = 2
rank Heard = 3
rank Opening = 4
rank Opened = 5
rank Invited = 6
rank Proving = 7
rank Shown = 8
rank Trusted = 9
rank Checking = 10
rank Checked = 11
rank Settling = 13
rank Settled = 14
rank Served = 15
rank Rested = 16

-- the client's step
abbrev pub last_step : Command → ℕ
last_step Begins = 4
last_step command = 2

abbrev pub step_at : Command → Stage → ℕ
step_at opening Asked = 1
step_at opening Noted = 1
step_at opening Heard = 2
step_at opening Opening = 2
step_at opening Opened = 2
step_at opening Invited = 2
step_at opening Proving = 3
step_at opening Shown = 3
step_at opening Trusted = 4
step_at opening Checking = 4
step_at opening Checked = 4
step_at opening Settling = 4
step_at opening Settled = 4
step_at opening Served = last_step opening
step_at opening Rested = 0

-- a row after the last request, or before the first
abbrev pub rest : ℕ → Phase
rest zero = Idle
rest (suc serial) = Done

abbrev pub leader_serial : ℕ → Stage → ℕ
leader_serial serial Asked = serial - 1
leader_serial serial Noted = serial - 1
leader_serial serial Heard = serial - 1
leader_serial serial stage = serial

abbrev pub leader_phase : ℕ → Stage → Phase
leader_phase serial Asked = rest (serial - 1)
leader_phase serial Noted = rest (serial - 1)
leader_phase serial Heard = rest (serial - 1)
leader_phase serial Opening = Waiting
leader_phase serial Opened = Waiting
leader_phase serial Invited = Challenged
leader_phase serial Proving = Challenged
leader_phase serial Shown = Challenged
leader_phase serial Trusted = Challenged
leader_phase serial Checking = Auditing
leader_phase serial Checked = Auditing
leader_phase serial Settling = Auditing
leader_phase serial Settled = Auditing
leader_phase serial Served = Done
leader_phase serial Rested = rest serial

abbrev pub helper_serial : ℕ → Stage → ℕ
helper_serial serial Asked = serial - 1
helper_serial serial stage = serial

abbrev pub helper_phase : ℕ → Command → Stage → Phase
helper_phase serial opening Asked = rest (serial - 1)
helper_phase serial opening Noted = Deposited
helper_phase serial opening Heard = Deposited
helper_phase serial opening Opening = Deposited
helper_phase serial opening Opened = carried_phase opening
helper_phase serial opening Invited = Begun
helper_phase serial opening Proving = Begun
helper_phase serial opening Shown = Proved
helper_phase serial opening Trusted = Proved
helper_phase serial opening Checking = Proved
helper_phase serial opening Checked = Audited
helper_phase serial opening Settling = Audited
helper_phase serial opening Settled = Done
helper_phase serial opening Served = Done
helper_phase serial opening Rested = rest serial

-- the stages that a write alone comes to
abbrev pub IsRight : Command → Stage → Type 0
IsRight opening Invited = opening ≡ Begins
IsRight opening Proving = opening ≡ Begins
IsRight opening Shown = opening ≡ Begins
IsRight opening Trusted = opening ≡ Begins
IsRight opening Checking = opening ≡ Begins
IsRight opening Checked = opening ≡ Begins
IsRight opening Settling = opening ≡ Begins
IsRight opening Settled = opening ≡ Begins
IsRight opening stage = Unit {0}

abbrev pub IsOpening : Command → Type 0
IsOpening Audits = ⊥
IsOpening Settles = ⊥
IsOpening command = Unit {0}

-- a lane with no request has its first serial before it
abbrev pub IsNumbered : ℕ → Stage → Type 0
IsNumbered serial Rested = Unit {0}
IsNumbered serial stage = 0 < serial

pub record Fits (lane : Lane) (stage : Stage) : Type 0 where
  pub step : lane.step ≡ step_at lane.opening stage
  pub leader_serial : lane.leader.serial ≡ leader_serial lane.serial stage
  pub leader_phase : lane.leader.phase ≡ leader_phase lane.serial stage
  pub helper_serial : lane.helper.serial ≡ helper_serial lane.serial stage
  pub helper_phase : lane.helper.phase ≡ helper_phase lane.serial lane.opening stage
  pub right : IsRight lane.opening stage
  pub opens : IsOpening lane.opening
  pub numbered : IsNumbered lane.serial stage

-- how far a lane has come
abbrev pub far : Lane → Stage → ℕ
far lane stage = 32 * lane.serial + rank stage

-- What a command's stages are: where it is issued, where it is carried out, and how far its lane has come at
-- least once it is acknowledged.
abbrev pub issued : Command → Stage
issued Audits = Checking
issued Settles = Settling
issued command = Opening

abbrev pub done : Command → Stage
done Audits = Checked
done Settles = Settled
done command = Opened

abbrev pub past : Command → ℕ
past Begins = 6
past Audits = 12
past command = 15

-- no command of the lane is outstanding
abbrev pub IsFree : Stage → Type 0
IsFree Opening = ⊥
IsFree Opened = ⊥
IsFree Checking = ⊥
IsFree Checked = ⊥
IsFree Settling = ⊥
IsFree Settled = ⊥
IsFree stage = Unit {0}

abbrev pub is_out : Stage → Bool
is_out Opening = true
is_out Checking = true
is_out Settling = true
is_out stage = false
