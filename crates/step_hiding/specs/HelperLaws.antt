-- What a helper sends depends on a write only by what the leader has of it: its public part, and the values
-- that are opened and closed in its audit.
use Rattle.std.specs.Prelude.{◌≡◌, ℕ, ◌+◌, List, [], ◌∷◌, Some, Result, Ok, Err, slice_get}
use Rattle.express_words.specs.declared.settings.Settings.{Settings}
use Rattle.express_words.specs.declared.refusal.Refusal.{Refusal}
use Rattle.frame_rules.specs.Frames as frame
use Rattle.frame_rules.specs.Frames.{PlainFrame, PlainBody}
use Rattle.frame_rules.specs.Whole.{whole, linked, is_command}
use Rattle.step_rules.specs.Boxes.{Box}
use Rattle.step_rules.specs.Helper.{Helper, Server, Stage, Proved, row_at, opened_helper}
use Rattle.step_rules.specs.HelperClients.{on_client}
use Rattle.step_rules.specs.HelperCommands.{counted, stage_for}
use Rattle.step_hiding.specs.Worlds.{values_in, masked_in, Event, FromClient, FromLink, LinkUp}
use Rattle.step_hiding.specs.Twins.{Aims, SameProofs, Two, SameElsewhere}
use Rattle.step_hiding.specs.HelperWorlds.{on_link_in, helper_after, helper_sight}
use Rattle.step_hiding.specs.HelperTwins.{TwinHelpers}

-- ---- frames of clients

-- an honest client's frame, and what it would have sent with another aim: another share of a proof
abbrev pub TwinFrames : Aims → (lane serial : ℕ) → PlainBody → PlainBody → Type 0
TwinFrames aims lane serial (frame.Proof share) (frame.Proof other) =
    SameProofs (aims.proofs lane serial) share other
TwinFrames aims lane serial body other = body ≡ other

-- what is read of bytes that come here, and there
abbrev pub MayRead : Aims → Result PlainFrame Refusal → Result PlainFrame Refusal → Type 0
MayRead aims (Ok f) (Ok g) =
    (record f { body = g.body } ≡ g) × TwinFrames aims f.lane f.serial f.body g.body
MayRead aims (Err why) (Err other) = why ≡ other
MayRead aims found other = ⊥

abbrev pub MayCome : Aims → List ℕ → List ℕ → Type 0
MayCome aims bytes other = MayRead aims (whole bytes) (whole other)

abbrev pub HelpersAnswerClients : Type 0
HelpersAnswerClients =
    (aims : Aims) (helper twin : Helper) (bytes other : List ℕ) →
    TwinHelpers aims helper twin → MayCome aims bytes other →
    ((on_client helper bytes).reply ≡ (on_client twin other).reply)
    × TwinHelpers aims (on_client helper bytes).helper (on_client twin other).helper

-- ---- commands of the leader, which may be any bytes

-- the masks take up what the shares of a box and of its twin differ in
abbrev pub SameMasked : Two → (h k : Server) → PlainFrame → (number : ℕ) → Type 0
SameMasked two h k c number =
    (box twin : Box) → slice_get h.boxes number ≡ Some box → slice_get k.boxes number ≡ Some twin →
    masked_in two.here c.lane c.serial h.settings.width box
    ≡ masked_in two.there c.lane c.serial k.settings.width twin

-- What is supposed of two writes that are audited: they have the same values. And of a read: its reply is the
-- same.
abbrev pub Views : Two → (h k : Server) → PlainFrame → PlainBody → Stage → Stage → Type 0
Views two h k c (frame.LinkAudit sigma opened) (Proved write share) (Proved twin other) =
    values_in (two.here.leaf c.lane c.serial) 1 write (counted h write) share sigma opened
    ≡ values_in (two.there.leaf c.lane c.serial) 1 twin (counted k twin) other sigma opened
Views two h k c (frame.LinkRead number) stage other = SameMasked two h k c number
Views two h k c (frame.LinkRetire number) stage other = SameMasked two h k c number
Views two h k c command stage other = Unit {0}

-- at the next command
abbrev pub SameViews : Two → Helper → Helper → List ℕ → Type 0
SameViews two h k bytes =
    (c : PlainFrame) → linked is_command h.server.settings.width bytes ≡ Some c → c.link ≡ h.carried + 1 →
    Views two h.server k.server c c.body (stage_for (row_at h.server c.lane) c.serial)
    (stage_for (row_at k.server c.lane) c.serial)

abbrev pub HelpersAnswerLeaders : Type 0
HelpersAnswerLeaders =
    (two : Two) (helper twin : Helper) (bytes : List ℕ) →
    SameElsewhere two → TwinHelpers two.aims helper twin → SameViews two helper twin bytes →
    ((on_link_in two.here helper bytes).answer ≡ (on_link_in two.there twin bytes).answer)
    × TwinHelpers two.aims (on_link_in two.here helper bytes).helper (on_link_in two.there twin bytes).helper

-- ---- a whole run

-- what comes to a helper and to its twin
abbrev pub Comes : Two → Helper → Helper → Event → Event → Type 0
Comes two h k (FromClient bytes) (FromClient other) = MayCome two.aims bytes other
Comes two h k (FromLink bytes) (FromLink other) = (bytes ≡ other) × SameViews two h k bytes
Comes two h k LinkUp LinkUp = Unit {0}
Comes two h k event other = ⊥

-- all that is supposed of a run
unfoldable pub Plays : Two → Helper → Helper → List Event → List Event → Type 0
Plays two h k [] [] = Unit {0}
Plays two h k (event ∷ events) (other ∷ others) =
    Comes two h k event other
    × Plays two (helper_after two.here h event) (helper_after two.there k other) events others
Plays two h k events others = ⊥

-- all that the helper sends is the same, byte for byte
abbrev pub HelperSightsStay : Type 0
HelperSightsStay =
    (two : Two) (settings : Settings) (seed : List ℕ) (events others : List Event) →
    let helper = opened_helper settings seed in
    SameElsewhere two → Plays two helper helper events others →
    helper_sight two.here helper events ≡ helper_sight two.there helper others
