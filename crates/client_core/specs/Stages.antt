-- The current request and its step, read from what holds them, where this is the message.
use Rattle.std.specs.Prelude.{◌≡◌, ℕ, ◌<◌, List}
use Rattle.dpf_rules.specs.Keys.{honest_keys}
use Rattle.mailbox_rules.specs.Requests.{Request, Register, Write, Read, Retire}
use Rattle.step_rules.specs.Client.{Current, Deposits, Submits, ProvesToHelper, ProvesToLeader}
use Rattle.client_core.specs.declared.stage.BareRequest.{BareRequest}
use Rattle.client_core.specs.declared.stage.BareRequest.TheVariants as task
use Rattle.client_core.specs.declared.stage.CurrentStep.{CurrentStep}
use Rattle.client_core.specs.declared.stage.CurrentStep.TheVariants as stage

abbrev pub request_in : BareRequest → List ℕ → Request
request_in (task.Register address) message = Register address
request_in (task.Write target) message = Write target message
request_in (task.Read own) message = Read own
request_in (task.Retire own) message = Retire own

abbrev pub current_in : CurrentStep → List ℕ → Current
current_in (stage.Deposits t) message = record { request = request_in t message; step = Deposits }
current_in (stage.Submits t) message = record { request = request_in t message; step = Submits }
current_in (stage.ProvesToHelper target ckey) message =
    record { request = Write target message; step = ProvesToHelper ckey }
current_in (stage.ProvesToLeader target ckey) message =
    record { request = Write target message; step = ProvesToLeader ckey }

-- what a current request rests on: how many boxes the client owns and has room for, the message and the
-- public part that it holds, and the roots that it draws
pub record Basis : Type 0 where
  pub owned : ℕ
  pub capacity : ℕ
  pub message : List ℕ
  pub part : List ℕ
  pub root0 : ℕ
  pub root1 : ℕ

-- the public part is that of a write of the message to this target
abbrev pub IsKeyed : Basis → ℕ → Type 0
IsKeyed h target = h.part ≡ honest_keys target h.message h.root0 h.root1

-- a box that is registered has room, a write has its public part, and a box that is read is there
abbrev pub IsTask : Basis → BareRequest → Type 0
IsTask h (task.Register address) = h.owned < h.capacity
IsTask h (task.Write target) = IsKeyed h target
IsTask h (task.Read own) = own < h.owned
IsTask h (task.Retire own) = own < h.owned

abbrev pub IsStage : Basis → CurrentStep → Type 0
IsStage h (stage.Deposits t) = IsTask h t
IsStage h (stage.Submits t) = IsTask h t
IsStage h (stage.ProvesToHelper target ckey) = IsKeyed h target
IsStage h (stage.ProvesToLeader target ckey) = IsKeyed h target
