-- A whole run at an honest leader, against any helper: what it sends is the same for other aims.
use Rattle.std.specs.Prelude.{◌≡◌, ℕ, Bool, true, List, [], ◌∷◌, Some, slice_get}
use Rattle.express_words.specs.declared.settings.Settings.{Settings}
use Rattle.frame_rules.specs.Frames.{PlainFrame}
use Rattle.step_rules.specs.Boxes.{Box}
use Rattle.step_rules.specs.Leader.{Leader, Stage, Challenged, row_at, opened_leader}
use Rattle.step_rules.specs.LeaderClients.{counted, sigma}
use Rattle.step_hiding.specs.LeaderWorlds.{leader_after, leader_says}
use Rattle.step_hiding.specs.LeaderLaws.{stage_for}
use Rattle.run_sights.specs.Histories.{Writes, Aims, Event, FromAnybody, Proves, FromLink, LinkUp, come}
use Rattle.run_sights.specs.Histories.{world_at, writes_moved, mask_moved, number_in}
use Rattle.run_sights.specs.Suppositions.{AllMove, AuditsOwn, SendsNoProof, IsProved, Covers}

-- the viewer is the helper
abbrev pub after : Writes → Leader → Event → Leader
after writes a event = leader_after (world_at 1 writes event) a (come 1 writes event)

-- all that the leader sends in a run, to clients and to the helper
unfoldable pub sight : Writes → Leader → List Event → List (List ℕ)
sight writes a [] = []
sight writes a (event ∷ events) =
    leader_says (world_at 1 writes event) a (come 1 writes event) ∷ sight writes (after writes a event) events

-- ---- what is supposed

-- of a proof that comes at a challenged row
abbrev pub Audits : Writes → Leader → (lane serial : ℕ) → Stage → Type 0
Audits writes a lane serial (Challenged held kept) =
    AuditsOwn 1 (writes lane serial) held (counted a held) (sigma a)
Audits writes a lane serial stage = Unit {0}

abbrev pub Supposed : Writes → Leader → Event → Type 0
Supposed writes a (FromAnybody bytes) = SendsNoProof writes bytes
Supposed writes a (Proves lane serial) =
    IsProved writes lane serial × Audits writes a lane serial (stage_for (row_at a lane) serial)
Supposed writes a (FromLink bytes mask) =
    (c : PlainFrame) → slice_get a.outstanding 0 ≡ Some c → Covers a.boxes (number_in c.body) mask
Supposed writes a LinkUp = Unit {0}

unfoldable pub Plays : Writes → Leader → List Event → Type 0
Plays writes a [] = Unit {0}
Plays writes a (event ∷ events) = Supposed writes a event × Plays writes (after writes a event) events

-- ---- other aims

-- at a leader a, and its twin b beside the moved writes: the helper replies to the oldest command
abbrev pub event_moved : Leader → Leader → Event → Event
event_moved a b (FromLink bytes mask) =
    FromLink bytes (mask_moved a.boxes b.boxes (slice_get a.outstanding 0) mask)
event_moved a b event = event

unfoldable pub events_moved : (writes others : Writes) → Leader → Leader → List Event → List Event
events_moved writes others a b [] = []
events_moved writes others a b (event ∷ events) =
    let gone = event_moved a b event in
    gone ∷ events_moved writes others (after writes a event) (after others b gone) events

-- the mask of a box at which no write aims stays
abbrev pub MaskStays : (spared : ℕ → Bool) → Leader → Event → Event → Type 0
MaskStays spared a (FromLink bytes mask) (FromLink same later) =
    (c : PlainFrame) (number : ℕ) (box : Box) →
    slice_get a.outstanding 0 ≡ Some c → number_in c.body ≡ Some number →
    slice_get a.boxes number ≡ Some box → spared box.address ≡ true → later ≡ mask
MaskStays spared a event gone = Unit {0}

unfoldable pub MasksStay : (spared : ℕ → Bool) → Writes → Leader → List Event → List Event → Type 0
MasksStay spared writes a [] [] = Unit {0}
MasksStay spared writes a (event ∷ events) (gone ∷ rest) =
    MaskStays spared a event gone × MasksStay spared writes (after writes a event) events rest
MasksStay spared writes a events gone = ⊥

-- a law of a run and of other aims of its honest writes
abbrev pub OfTwoRuns : ((ℕ → Bool) → Writes → Writes → Leader → List Event → List Event → Type 0) → Type 0
OfTwoRuns Law =
    (settings : Settings) (seed : List ℕ) (spared : ℕ → Bool) (writes : Writes) (to : Aims)
    (events : List Event) →
    let leader = opened_leader settings seed in
    AllMove settings.width spared writes to → Plays writes leader events →
    let others = writes_moved 1 writes to in
    Law spared writes others leader events (events_moved writes others leader leader events)

-- all that the leader sends is the same, byte for byte
abbrev pub LeaderSightsStay : Type 0
LeaderSightsStay = OfTwoRuns (λ spared writes others leader events gone.
    sight others leader gone ≡ sight writes leader events)

-- the moved run is a run, of which the same is supposed
abbrev pub LeaderRunsStay : Type 0
LeaderRunsStay = OfTwoRuns (λ spared writes others leader events gone. Plays others leader gone)

-- and the opposite move gives back the first one
abbrev pub LeaderRunsReturn : Type 0
LeaderRunsReturn = OfTwoRuns (λ spared writes others leader events gone.
    events_moved others writes leader leader gone ≡ events)

-- what is drawn for boxes at which no write aims stays
abbrev pub LeaderMasksStay : Type 0
LeaderMasksStay = OfTwoRuns (λ spared writes others leader events gone.
    MasksStay spared writes leader events gone)
