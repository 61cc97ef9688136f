-- The two runs of a schedule, over tokens and over bytes, and the history that both have.
use Rattle.std.specs.Prelude.{◌≡◌, ◌<◌, ◌≤◌, ◌^◌, ℕ, false, Bool, List, [], ◌∷◌, ◌++◌, ◌+◌, filter, length}
use Rattle.std.specs.Prelude.{nat_eq, replicate, slice_get, suc, Option, Some, None, Result, Ok, Err}
use Rattle.std.specs.Prelude.{if◌then◌else◌}
use Rattle.express_words.specs.declared.settings.Settings.{Settings}
use Rattle.express_words.specs.declared.refusal.Refusal.{Refusal}
use Rattle.express_words.specs.Limits.{KeepsLimits, levels_len}
use Rattle.frame_rules.specs.Frames.{PlainFrame}
use Rattle.frame_rules.specs.Whole.{whole, is_from_client}
use Rattle.mailbox_rules.specs.Requests.{Request, Register, Write}
use Rattle.token_rules.specs.Tokens.{World, Oracle, start}
use Rattle.token_rules.specs.Run as tokens
use Rattle.token_rules.specs.Run.{sent_of}
use Rattle.token_rules.specs.Laws.{asks_of}
use Rattle.run_rules.specs.Letters.{FrameWorld, Outcome, opened}
use Rattle.run_rules.specs.Run.{Event, Ask, Send, Tick, Deliver, Show, Finish, Inject, run}
use Rattle.run_rules.specs.Book.{Book, Brought}

-- the lane of the one frame of a client that injected bytes exactly are, if they are one
abbrev pub lane_from_client : Result PlainFrame Refusal → Option ℕ
lane_from_client (Ok f) = if is_from_client f.body then Some f.lane else None
lane_from_client (Err r) = None

-- what an event is to the token run: showing a frame moves nothing
abbrev pub token_events_of : Event → List tokens.Event
token_events_of (Ask c request) = tokens.Ask c request ∷ []
token_events_of (Send c) = tokens.Send c ∷ []
token_events_of Tick = tokens.Tick ∷ []
token_events_of (Deliver number) = tokens.Deliver number ∷ []
token_events_of (Show number) = []
token_events_of (Finish c) = tokens.Finish c ∷ []
token_events_of (Inject to_leader bytes) = tokens.Inject to_leader (lane_from_client (whole bytes)) ∷ []

unfoldable pub token_events : List Event → List tokens.Event
token_events [] = []
token_events (event ∷ events) = token_events_of event ++ token_events events

-- a schedule of clients: no lane is foreign
abbrev pub no_lane : ℕ → Bool
no_lane c = false

-- the token run of a schedule, where what foreign lanes do is said by an oracle
abbrev pub token_run : Oracle → Settings → (ℕ → Bool) → List Event → World
token_run o settings foreign events =
    tokens.run o (start settings.width settings.boxes settings.window foreign) (token_events events)

abbrev pub frame_run : Settings → List ℕ → List Event → FrameWorld
frame_run settings seed events = run (opened settings seed) events

-- in a run of clients no foreign frame brought anything
abbrev pub no_brought : ℕ → Brought
no_brought width = record {
  key = λ server c serial. replicate 32 0;
  root = λ server c serial. 0;
  share = λ server c serial. record { u = 0; v = 0; h = replicate 5 0; a = 0; b = 0; c = 0 };
  part = λ c serial. replicate (levels_len + width) 0;
  address = λ c serial. 0;
  number = λ c serial. 0;
}

-- the history of a run of clients that came to this world
abbrev pub history : Settings → List ℕ → World → Book
history settings seed w = record {
  settings = settings;
  seed = seed;
  foreign = no_lane;
  sent = λ c. sent_of w c;
  commands = w.commands;
  entries = w.journal;
  brought = no_brought settings.width;
}

-- ---- schedules of clients

-- addresses have 128 bits, and a message has the width
abbrev pub Fits : ℕ → Request → Type 0
Fits width (Register address) = address < 2 ^ 128
Fits width (Write target message) = (target < 2 ^ 128) × (length message ≡ width)
Fits width request = Unit {0}

-- a client is asked within the settings, or something moves; no bytes come from outside
abbrev pub IsOfClients : Settings → Event → Type 0
IsOfClients settings (Ask c request) = (c < settings.lanes) × Fits settings.width request
IsOfClients settings (Inject to_leader bytes) = ⊥
IsOfClients settings event = Unit {0}

abbrev pub AreOfClients : Settings → List Event → Type 0
AreOfClients settings [] = Unit {0}
AreOfClients settings (event ∷ events) = IsOfClients settings event × AreOfClients settings events

-- what holds at the end of every schedule of clients, of its history, its run over bytes and its token run
abbrev pub AtEnd : (Book → FrameWorld → World → Type 0) → Type 0
AtEnd P = (o : Oracle) (settings : Settings) (seed : List ℕ) (events : List Event)
    → KeepsLimits settings.width settings.boxes settings.lanes settings.window → AreOfClients settings events
    → length events ≤ 20000
    → let v = token_run o settings no_lane events in
    P (history settings seed v) (frame_run settings seed events) v

-- ---- after a finish

-- A client with no current request and none that waits, each of whose requests has its outcome:
-- it was asked so many.
pub record HasEnded (c asked : ℕ) (f : FrameWorld) : Type 0 where
  pub current : (f.clients c).current ≡ None
  pub waiting : f.waiting c ≡ []
  pub outcomes : length (filter (λ o. nat_eq o.client c) f.outcomes) ≡ asked

-- the outcome of a client's request of this number, from 0 on
pub record HasOutcome (c number : ℕ) (f : FrameWorld) : Type 0 where
  pub place : ℕ
  pub outcome : Outcome
  pub is : slice_get f.outcomes place ≡ Some outcome
  pub client : outcome.client ≡ c
  pub request : outcome.request ≡ number
