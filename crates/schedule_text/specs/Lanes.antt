-- Which lanes belong to clients after the events so far, and which are foreign.
use Rattle.std.specs.Prelude.{◌≡◌, ℕ, ◌==◌, ◌||◌, Bool, true, false, List, [], ◌∷◌, Option, Some, None}
use Rattle.std.specs.Prelude.{Result, Ok, Err, if◌then◌else◌}
use Rattle.express_words.specs.declared.refusal.Refusal.{Refusal}
use Rattle.frame_rules.specs.Frames.{PlainFrame}
use Rattle.frame_rules.specs.Spelling.{Spells}
use Rattle.frame_rules.specs.Whole.{whole, is_from_client}
use Rattle.schedule_text.specs.declared.schedule.Event.{Event}
use Rattle.schedule_text.specs.declared.schedule.Event.TheVariants.{Ask, Send, Tick, Deliver, Show, Finish}
use Rattle.schedule_text.specs.declared.schedule.Event.TheVariants.{Inject}

-- the lane of a frame that a client sends to a server: kinds 1 to 5 and 16
abbrev pub lane_from_client : Result PlainFrame Refusal → Option ℕ
lane_from_client (Ok f) = if is_from_client f.body then Some f.lane else None
lane_from_client (Err r) = None

-- the lane of the one frame that the bytes exactly are, if a client sends such
unfoldable pub lane_in : List ℕ → Option ℕ
lane_in bytes = lane_from_client (whole bytes)

-- the bytes spell one frame that a client sends to a server on this lane
pub record IsFrameOf (lane : ℕ) (bytes : List ℕ) : Type 0 where
  pub frame : PlainFrame
  pub spelled : Spells frame bytes
  pub class : is_from_client frame.body ≡ true
  pub of_lane : frame.lane ≡ lane

-- the client that a line is of
abbrev pub client_of : Event → Option ℕ
client_of (Ask client asked) = Some client
client_of (Send client) = Some client
client_of Tick = None
client_of (Deliver number) = None
client_of (Show number) = None
client_of (Finish client) = Some client
client_of (Inject server bytes) = None

-- the lane that an event makes foreign
abbrev pub foreign_by : Event → Option ℕ
foreign_by (Inject server bytes) = lane_in bytes
foreign_by (Ask client asked) = None
foreign_by (Send client) = None
foreign_by Tick = None
foreign_by (Deliver number) = None
foreign_by (Show number) = None
foreign_by (Finish client) = None

abbrev pub is_lane : ℕ → Option ℕ → Bool
is_lane lane None = false
is_lane lane (Some other) = lane == other

-- a client's line names the lane
unfoldable pub is_used : List Event → ℕ → Bool
is_used [] lane = false
is_used (event ∷ events) lane = is_lane lane (client_of event) || is_used events lane

-- an event makes the lane foreign
unfoldable pub is_foreign : List Event → ℕ → Bool
is_foreign [] lane = false
is_foreign (event ∷ events) lane = is_lane lane (foreign_by event) || is_foreign events lane

-- such a lane, if there is one, is none of these
abbrev pub IsApart : (ℕ → Bool) → Option ℕ → Type 0
IsApart among None = Unit {0}
IsApart among (Some lane) = among lane ≡ false

-- An event may follow those before it: a client's lane isn't foreign, and a lane that becomes foreign is no
-- client's.
pub record MayFollow (before : List Event) (event : Event) : Type 0 where
  pub client : IsApart (is_foreign before) (client_of event)
  pub stranger : IsApart (is_used before) (foreign_by event)
