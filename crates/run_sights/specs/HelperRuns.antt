-- A whole run at an honest helper, against any leader: what it sends is the same for other aims.
use Rattle.std.specs.Prelude.{◌≡◌, ℕ, ◌+◌, Bool, true, List, [], ◌∷◌, Some, slice_get}
use Rattle.express_words.specs.declared.settings.Settings.{Settings}
use Rattle.frame_rules.specs.Frames as frame
use Rattle.frame_rules.specs.Frames.{PlainFrame, PlainBody}
use Rattle.frame_rules.specs.Whole.{linked, is_command}
use Rattle.step_rules.specs.Boxes.{Box}
use Rattle.step_rules.specs.Helper.{Helper, Server, Stage, Proved, row_at, opened_helper}
use Rattle.step_rules.specs.HelperCommands.{counted, stage_for}
use Rattle.step_hiding.specs.HelperWorlds.{helper_after, helper_says}
use Rattle.run_sights.specs.Histories.{Writes, Aims, Event, FromAnybody, Proves, FromLink, LinkUp, come}
use Rattle.run_sights.specs.Histories.{world_at, writes_moved, mask_moved, number_in}
use Rattle.run_sights.specs.Suppositions.{AllMove, AuditsOwn, SendsNoProof, IsProved, Covers}

-- the viewer is the leader
abbrev pub after : Writes → Helper → Event → Helper
after writes h event = helper_after (world_at 0 writes event) h (come 0 writes event)

-- all that the helper sends in a run, to clients and to the leader
unfoldable pub sight : Writes → Helper → List Event → List (List ℕ)
sight writes h [] = []
sight writes h (event ∷ events) =
    helper_says (world_at 0 writes event) h (come 0 writes event) ∷ sight writes (after writes h event) events

-- ---- what is supposed

abbrev pub Audits : Writes → Server → PlainFrame → PlainBody → Stage → Type 0
Audits writes h c (frame.LinkAudit sigma opened) (Proved held share) =
    AuditsOwn 0 (writes c.lane c.serial) held (counted h held) sigma
Audits writes h c command stage = Unit {0}

abbrev pub Commands : Writes → Helper → (bytes mask : List ℕ) → Type 0
Commands writes h bytes mask =
    (c : PlainFrame) → linked is_command h.server.settings.width bytes ≡ Some c →
    (c.link ≡ h.carried + 1 →
    Audits writes h.server c c.body (stage_for (row_at h.server c.lane) c.serial))
    × Covers h.server.boxes (number_in c.body) mask

abbrev pub Supposed : Writes → Helper → Event → Type 0
Supposed writes h (FromAnybody bytes) = SendsNoProof writes bytes
Supposed writes h (Proves lane serial) = IsProved writes lane serial
Supposed writes h (FromLink bytes mask) = Commands writes h bytes mask
Supposed writes h LinkUp = Unit {0}

unfoldable pub Plays : Writes → Helper → List Event → Type 0
Plays writes h [] = Unit {0}
Plays writes h (event ∷ events) = Supposed writes h event × Plays writes (after writes h event) events

-- ---- other aims

-- at a helper h, and its twin k beside the moved writes
abbrev pub event_moved : Helper → Helper → Event → Event
event_moved h k (FromLink bytes mask) =
    FromLink bytes
    (mask_moved h.server.boxes k.server.boxes (linked is_command h.server.settings.width bytes) mask)
event_moved h k event = event

unfoldable pub events_moved : (writes others : Writes) → Helper → Helper → List Event → List Event
events_moved writes others h k [] = []
events_moved writes others h k (event ∷ events) =
    let gone = event_moved h k event in
    gone ∷ events_moved writes others (after writes h event) (after others k gone) events

-- the mask of a box at which no write aims stays
abbrev pub MaskStays : (spared : ℕ → Bool) → Helper → Event → Event → Type 0
MaskStays spared h (FromLink bytes mask) (FromLink same later) =
    (c : PlainFrame) (number : ℕ) (box : Box) →
    linked is_command h.server.settings.width bytes ≡ Some c → number_in c.body ≡ Some number →
    slice_get h.server.boxes number ≡ Some box → spared box.address ≡ true → later ≡ mask
MaskStays spared h event gone = Unit {0}

unfoldable pub MasksStay : (spared : ℕ → Bool) → Writes → Helper → List Event → List Event → Type 0
MasksStay spared writes h [] [] = Unit {0}
MasksStay spared writes h (event ∷ events) (gone ∷ rest) =
    MaskStays spared h event gone × MasksStay spared writes (after writes h event) events rest
MasksStay spared writes h events gone = ⊥

-- a law of a run and of other aims of its honest writes
abbrev pub OfTwoRuns : ((ℕ → Bool) → Writes → Writes → Helper → List Event → List Event → Type 0) → Type 0
OfTwoRuns Law =
    (settings : Settings) (seed : List ℕ) (spared : ℕ → Bool) (writes : Writes) (to : Aims)
    (events : List Event) →
    let helper = opened_helper settings seed in
    AllMove settings.width spared writes to → Plays writes helper events →
    let others = writes_moved 0 writes to in
    Law spared writes others helper events (events_moved writes others helper helper events)

-- all that the helper sends is the same, byte for byte
abbrev pub HelperSightsStay : Type 0
HelperSightsStay = OfTwoRuns (λ spared writes others helper events gone.
    sight others helper gone ≡ sight writes helper events)

-- the moved run is a run, of which the same is supposed
abbrev pub HelperRunsStay : Type 0
HelperRunsStay = OfTwoRuns (λ spared writes others helper events gone. Plays others helper gone)

-- and the opposite move gives back the first one
abbrev pub HelperRunsReturn : Type 0
HelperRunsReturn = OfTwoRuns (λ spared writes others helper events gone.
    events_moved others writes helper helper gone ≡ events)

-- what is drawn for boxes at which no write aims stays
abbrev pub HelperMasksStay : Type 0
HelperMasksStay = OfTwoRuns (λ spared writes others helper events gone.
    MasksStay spared writes helper events gone)
