-- The state of the run's rules, read from the code's state.
use Rattle.std.specs.Prelude.{◌≡◌, ℕ, ◌<◌, List, [], length, OnOk, Option, Result, Some, None, slice_get}
use Rattle.mailbox_rules.specs.Requests.{Request}
use Rattle.step_rules.specs.Client.{Client, opened_client}
use Rattle.token_rules.specs.Tokens.{put}
use Rattle.run_rules.specs.Letters.{FrameWorld, client_seed, capacity}
use Rattle.schedule_text.specs.declared.schedule.Event.{Event}
use Rattle.schedule_text.specs.declared.schedule.Event.TheVariants.{Ask, Send, Tick, Deliver, Show, Finish}
use Rattle.schedule_text.specs.declared.schedule.Event.TheVariants.{Inject}
use Rattle.schedule_text.specs.declared.schedule.Header.{Header}
use Rattle.replay_world.specs.declared.asker.Asker.{Asker}
use Rattle.replay_world.specs.declared.lines.OutcomeLine.{OutcomeLine}
use Rattle.replay_world.specs.declared.state.State.{State}
use Rattle.replay_world.specs.Parts.{pool_in, requests_in, journal_in, outcomes_in, shown_all_in}

-- what is read of the client of a lane, and what stands for a lane that has none
abbrev pub at_or : {X : Type 0} → (Asker → X) → X → Option Asker → X
at_or read without None = without
at_or read without (Some a) = read a

unfoldable pub at_lane : {X : Type 0} → (Asker → X) → (ℕ → X) → List Asker → ℕ → X
at_lane read without askers c = at_or read (without c) (slice_get askers c)

-- a client that was asked nothing
abbrev pub fresh : Header → ℕ → Client
fresh header c =
    opened_client c (client_seed header.seed c) header.settings.width (capacity header.settings) 1

abbrev pub requests_of : Asker → List Request
requests_of a = requests_in a.waiting.items

abbrev pub run_in : Header → State → FrameWorld
run_in header s = record {
  leader = s.leader;
  helper = s.helper;
  clients = at_lane (λ a. a.client) (fresh header) s.askers.items;
  waiting = at_lane requests_of (λ c. []) s.askers.items;
  told = at_lane (λ a. a.told) (λ c. 0) s.askers.items;
  journal = journal_in s.journal.items;
  pool = pool_in s.pool.items;
  outcomes = outcomes_in s.outcomes.items;
  shown = shown_all_in s.shown.items;
}

-- so are all these clients, each of its lane
abbrev pub AreFresh : Header → List Asker → Type 0
AreFresh header askers =
    (c : ℕ) (a : Asker) → slice_get askers c ≡ Some a
    → (a.client ≡ fresh header c) × (requests_of a ≡ []) × (a.told ≡ 0)

-- the state with this client of a lane, and these outcomes
abbrev pub with_asker : FrameWorld → ℕ → Asker → List OutcomeLine → FrameWorld
with_asker w c a outcomes = record w {
  clients = put w.clients c a.client;
  waiting = put w.waiting c (requests_of a);
  told = put w.told c a.told;
  outcomes = outcomes_in outcomes;
}

-- The client of a lane and the outcomes go on by this step, whatever the rest of the world is; where memory is
-- wanting nothing is said.
abbrev pub AskerMoves : {T E : Type 0} → (FrameWorld → FrameWorld) → ℕ → (old new : Asker)
    → (before now : List OutcomeLine) → Result T E → Type 0
AskerMoves step lane old new before now result =
    (w : FrameWorld) → OnOk result (with_asker w lane new now ≡ step (with_asker w lane old before))

-- From old to new the state goes on by this step.
abbrev pub Moves : (FrameWorld → FrameWorld) → State → State → Type 0
Moves step old new = (header : Header) → run_in header new ≡ step (run_in header old)

-- the settings and the number of lanes stay
pub record Keeps (old new : State) : Type 0 where
  pub leader : new.leader.settings ≡ old.leader.settings
  pub helper : new.helper.server.settings ≡ old.helper.server.settings
  pub lanes : length new.askers.items ≡ length old.askers.items

-- both servers have the header's settings, and each lane its client
pub record IsFit (header : Header) (s : State) : Type 0 where
  pub leader : s.leader.settings ≡ header.settings
  pub helper : s.helper.server.settings ≡ header.settings
  pub lanes : length s.askers.items ≡ header.settings.lanes

-- a client of an event is one of so many lanes
abbrev pub IsWithin : ℕ → Event → Type 0
IsWithin lanes (Ask client request) = client < lanes
IsWithin lanes (Send client) = client < lanes
IsWithin lanes Tick = Unit {0}
IsWithin lanes (Deliver number) = Unit {0}
IsWithin lanes (Show number) = Unit {0}
IsWithin lanes (Finish client) = client < lanes
IsWithin lanes (Inject server bytes) = Unit {0}
