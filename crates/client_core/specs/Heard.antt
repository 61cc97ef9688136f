-- What is heard of a reply, as a turn of the client.
use Rattle.std.specs.Prelude.{◌≡◌, ℕ, ◌<◌, List, length, Some, slice_get}
use Rattle.frame_rules.specs.Frames as frame
use Rattle.step_rules.specs.Client.{Client, Turn, Next, Accepted, Refused}
use Rattle.step_rules.specs.ClientReplies.{turn, ignores, later, finished, on_registered, on_message}
use Rattle.client_core.specs.declared.hearing.Meaning.{Meaning}
use Rattle.client_core.specs.declared.hearing.Meaning.TheVariants as heard
use Rattle.client_core.specs.Stages.{current_in, Basis, IsStage}

-- both servers' masked shares of the own box of this place
abbrev pub message_turn : Client → ℕ → List ℕ → List ℕ → Turn
message_turn c own zero one = on_message c (slice_get c.owned own) (frame.Message zero one)

-- where this is the message of the current request
abbrev pub turn_in : Client → List ℕ → Meaning → Turn
turn_in c message heard.Nothing = ignores c
turn_in c message (heard.Later r) = later c r
turn_in c message (heard.Next stage) = turn (record c { current = Some (current_in stage message) }) Next
turn_in c message (heard.Registered n) = on_registered c (frame.Registered n)
turn_in c message (heard.Message own zero one) = message_turn c own zero.now one.now
turn_in c message heard.Accepted = finished c Accepted
turn_in c message (heard.Refused r) = finished c (Refused r)

-- a step of the client, where this is the message of its current request
abbrev pub HearingStep : Type 0
HearingStep = Client → (message : List ℕ) → Turn

-- at each client and message the step comes to what is heard
abbrev pub Hears : HearingStep → Meaning → Type 0
Hears step h = (c : Client) (message : List ℕ) → step c message ≡ turn_in c message h

-- so at each client of this lane whose request has this serial
abbrev pub HearsAt : (lane serial : ℕ) → HearingStep → Meaning → Type 0
HearsAt lane serial step h =
    (c : Client) (message : List ℕ) → c.lane ≡ lane → c.serial ≡ serial → step c message ≡ turn_in c message h

-- the next stage is one, the box that was registered has room, and the box that was read is there
abbrev pub IsHeard : Basis → Meaning → Type 0
IsHeard h (heard.Next stage) = IsStage h stage
IsHeard h (heard.Registered n) = h.owned < h.capacity
IsHeard h (heard.Message own zero one) = (own < h.owned) × (length zero.now ≡ length one.now)
IsHeard h other = Unit {0}
