-- What a leader sends depends on a write only by what the helper has of it: its public part, and the values
-- that are opened and closed in its audit.
use Rattle.std.specs.Prelude.{◌≡◌, ℕ, ◌==◌, if◌then◌else◌, List, [], ◌∷◌, Some, Result, Ok, Err, slice_get}
use Rattle.express_words.specs.declared.settings.Settings.{Settings}
use Rattle.express_words.specs.declared.refusal.Refusal.{Refusal}
use Rattle.express_words.specs.declared.audit.Openings.{Openings}
use Rattle.frame_rules.specs.Frames as frame
use Rattle.frame_rules.specs.Frames.{PlainFrame, PlainBody}
use Rattle.frame_rules.specs.Whole.{whole, linked, is_reply}
use Rattle.step_rules.specs.Boxes.{Box}
use Rattle.step_rules.specs.Leader.{Leader, Row, Stage, Idle, Challenged, row_at, opened_leader}
use Rattle.step_rules.specs.LeaderClients.{counted, sigma}
use Rattle.step_hiding.specs.Worlds.{values_in, masked_in, Event, FromClient, FromLink, LinkUp}
use Rattle.step_hiding.specs.Twins.{Two, SameElsewhere}
use Rattle.step_hiding.specs.LeaderWorlds.{on_client_in, on_reply_in}
use Rattle.step_hiding.specs.LeaderWorlds.{leader_after, leader_sight}
use Rattle.step_hiding.specs.LeaderTwins.{TwinLeaders}

-- ---- frames of clients

-- an honest client's frame, and what it would have sent with another aim: another share of a proof
abbrev pub TwinFrames : PlainBody → PlainBody → Type 0
TwinFrames (frame.Proof share) (frame.Proof other) = Unit {0}
TwinFrames body other = body ≡ other

-- What is supposed of two writes whose proofs come: audited at the leader's point, they have the same values,
-- whatever the helper opens.
abbrev pub Audits : Two → (leader twin : Leader) → PlainFrame → PlainBody → PlainBody → Stage → Stage → Type 0
Audits two a b f (frame.Proof share) (frame.Proof other) (Challenged write kept) (Challenged twin again) =
    (helpers : Openings) →
    values_in (two.here.leaf f.lane f.serial) 0 write (counted a write) share (sigma a) helpers
    ≡ values_in (two.there.leaf f.lane f.serial) 0 twin (counted b twin) other (sigma b) helpers
Audits two a b f body other stage twin = Unit {0}

-- the stage of a row, where it has the frame's serial
abbrev pub stage_for : Row → ℕ → Stage
stage_for r serial = if r.serial == serial then r.stage else Idle

-- what is read of bytes that come here, and there
abbrev pub MayRead : Two → Leader → Leader → Result PlainFrame Refusal → Result PlainFrame Refusal → Type 0
MayRead two a b (Ok f) (Ok g) =
    (record f { body = g.body } ≡ g)
    × TwinFrames f.body g.body
    × Audits two a b f f.body g.body (stage_for (row_at a f.lane) f.serial)
    (stage_for (row_at b f.lane) f.serial)
MayRead two a b (Err why) (Err other) = why ≡ other
MayRead two a b found other = ⊥

abbrev pub MayCome : Two → Leader → Leader → List ℕ → List ℕ → Type 0
MayCome two a b bytes other = MayRead two a b (whole bytes) (whole other)

abbrev pub LeadersAnswerClients : Type 0
LeadersAnswerClients =
    (two : Two) (leader twin : Leader) (bytes other : List ℕ) →
    SameElsewhere two → TwinLeaders two.aims leader twin → MayCome two leader twin bytes other →
    ((on_client_in two.here leader bytes).answer ≡ (on_client_in two.there twin other).answer)
    × TwinLeaders two.aims (on_client_in two.here leader bytes).leader
    (on_client_in two.there twin other).leader

-- ---- replies of the helper, which may be any bytes

-- the masks take up what the shares of a box and of its twin differ in
abbrev pub SameMasked : Two → (a b : Leader) → PlainFrame → (number : ℕ) → Type 0
SameMasked two a b c number =
    (box twin : Box) → slice_get a.boxes number ≡ Some box → slice_get b.boxes number ≡ Some twin →
    masked_in two.here c.lane c.serial a.settings.width box
    ≡ masked_in two.there c.lane c.serial b.settings.width twin

-- What is supposed of a read: its reply is the same.
abbrev pub Views : Two → (a b : Leader) → (command : PlainFrame) → PlainBody → Type 0
Views two a b c (frame.LinkRead number) = SameMasked two a b c number
Views two a b c (frame.LinkRetire number) = SameMasked two a b c number
Views two a b c command = Unit {0}

abbrev pub SameViews : Two → Leader → Leader → List ℕ → Type 0
SameViews two a b bytes =
    (reply c : PlainFrame) → linked is_reply a.settings.width bytes ≡ Some reply →
    slice_get a.outstanding 0 ≡ Some c → Views two a b c c.body

abbrev pub LeadersAnswerHelpers : Type 0
LeadersAnswerHelpers =
    (two : Two) (leader twin : Leader) (bytes : List ℕ) →
    SameElsewhere two → TwinLeaders two.aims leader twin → SameViews two leader twin bytes →
    ((on_reply_in two.here leader bytes).ack ≡ (on_reply_in two.there twin bytes).ack)
    × TwinLeaders two.aims (on_reply_in two.here leader bytes).leader
    (on_reply_in two.there twin bytes).leader

-- ---- a whole run

-- what comes to a leader and to its twin
abbrev pub Comes : Two → Leader → Leader → Event → Event → Type 0
Comes two a b (FromClient bytes) (FromClient other) = MayCome two a b bytes other
Comes two a b (FromLink bytes) (FromLink other) = (bytes ≡ other) × SameViews two a b bytes
Comes two a b LinkUp LinkUp = Unit {0}
Comes two a b event other = ⊥

-- all that is supposed of a run
unfoldable pub Plays : Two → Leader → Leader → List Event → List Event → Type 0
Plays two a b [] [] = Unit {0}
Plays two a b (event ∷ events) (other ∷ others) =
    Comes two a b event other
    × Plays two (leader_after two.here a event) (leader_after two.there b other) events others
Plays two a b events others = ⊥

-- all that the leader sends is the same, byte for byte
abbrev pub LeaderSightsStay : Type 0
LeaderSightsStay =
    (two : Two) (settings : Settings) (seed : List ℕ) (events others : List Event) →
    let leader = opened_leader settings seed in
    SameElsewhere two → Plays two leader leader events others →
    leader_sight two.here leader events ≡ leader_sight two.there leader others
