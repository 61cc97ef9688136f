-- What a server is behind a record that its log takes.
use Rattle.std.proofs.Common.{◌≡◌, ◌==◌, ℕ, Bool, true, false, List, [], ◌∷◌, length, Option, Some, None, refl, ◌∙◌, ap, subst, if◌then◌else◌}
use Rattle.frame_rules.specs.Whole.{whole}
use Rattle.many_words.specs.declared.door.Door.{Door}
use Rattle.many_words.specs.declared.door.Door.TheVariants as door
use Rattle.lane_leases.specs.declared.ask.Announced.{Announced}
use Rattle.lane_leases.specs.declared.ask.Ask.{Ask}
use Rattle.lane_leases.specs.Records.{ask_bytes}
use Rattle.lane_gate.specs.Tickets.{ticket_hash}
use Rattle.http_door.specs.Hearing.{PlainAsked, Request, Preflight, Refused}
use Rattle.http_door.specs.Requests.{Frame, Proof, Lease}
use Rattle.door_asks.specs.Asks.{asked_in}
use Rattle.gated_servers.specs.declared.helper.GatedHelper.{GatedHelper}
use Rattle.gated_servers.specs.declared.leader.GatedLeader.{GatedLeader}
use Rattle.gated_servers.specs.Frames.{is_frame, passes_link}
use Rattle.gated_servers.specs.Helpers.{helper_after}
use Rattle.gated_servers.specs.Leaders.{leader_after, leader_asked}
use Rattle.gated_servers.specs.Records.{ask_in}
use Rattle.many_servers.specs.Announced.{announced_in, is_next}
use Rattle.many_servers.specs.Doors.{client_record, record_if}
use Rattle.many_servers.specs.Helpers as helper
use Rattle.many_servers.specs.Helpers.{helper_behind, if_lease}
use Rattle.many_servers.specs.Leaders as leader
use Rattle.many_servers.specs.Leaders.{ask_behind, leader_behind, whole_ask}
use Rattle.many_servers.specs.Packets.{carried}
use Rattle.many_servers.specs.Passing.{takes_bytes}

some : {A : Type 0} (a b : A) → Some a ≡ Some b → a ≡ b
some a b is = cc is

of-if : (b : Bool) (bytes noted : List ℕ) → record_if b bytes ≡ Some noted → bytes ≡ noted
of-if true bytes noted is = some bytes noted is
of-if false bytes noted is = absurd (cc is)

-- ---- the helper

abbrev HelperSame : GatedHelper → List ℕ → Type 0
HelperSame s noted = helper_behind s noted ≡ helper_after s noted

helper-client : (s : GatedHelper) (b : Bool) (frame noted : List ℕ) → record_if b (client_record frame) ≡ Some noted → HelperSame s noted
helper-client s b frame noted is = subst (HelperSame s) (of-if b (client_record frame) noted is) refl

helper-asked : (s : GatedHelper) (asked : Option PlainAsked) (noted : List ℕ) → helper.asked_noted s.gate asked ≡ Some noted → HelperSame s noted
helper-asked s None noted is = absurd (cc is)
helper-asked s (Some Preflight) noted is = absurd (cc is)
helper-asked s (Some (Refused why)) noted is = absurd (cc is)
helper-asked s (Some (Request (Frame ticket frame))) noted is = helper-client s (takes_bytes s.gate ticket None frame) frame noted is
helper-asked s (Some (Request (Proof ticket statement frame))) noted is = helper-client s (takes_bytes s.gate ticket (Some statement) frame) frame noted is
helper-asked s (Some (Request (Lease ticket other))) noted is = absurd (cc is)

either : (one two : Bool) (lease : Option Announced) (now s : GatedHelper) → two ≡ true → (if one then now else (if two then now else if_lease lease now s)) ≡ now
either true two lease now s is = refl
either false true lease now s is = refl
either false false lease now s is = absurd (cc is)

leased : (one two : Bool) (lease : Announced) (now s : GatedHelper) → (if one then now else (if two then now else if_lease (Some lease) now s)) ≡ now
leased true two lease now s = refl
leased false true lease now s = refl
leased false false lease now s = refl

helper-lease : (s : GatedHelper) (tag : ℕ) (rest noted : List ℕ) (lease : Option Announced) → announced_in (tag ∷ rest) ≡ lease → helper.lease_noted s.gate lease (tag ∷ rest) ≡ Some noted → HelperSame s noted
helper-lease s tag rest noted None is taken = absurd (cc taken)
helper-lease s tag rest noted (Some lease) is taken =
    let now = helper_after s (tag ∷ rest) in
    subst (HelperSame s) (of-if (is_next s.gate lease) (tag ∷ rest) noted taken)
    (ap (λ (l : Option Announced). if tag == 1 then now else (if tag == 2 then now else if_lease l now s)) is
    ∙ leased (tag == 1) (tag == 2) lease now s)

helper-command : (s : GatedHelper) (bytes noted : List ℕ) → helper.command_noted s.gate bytes ≡ Some noted → HelperSame s noted
helper-command s [] noted is = absurd (cc is)
helper-command s (tag ∷ rest) noted is = by (tag == 2) refl is
  where
    by : (b : Bool) → (tag == 2) ≡ b → (if b then record_if (passes_link (whole rest)) (tag ∷ rest) else helper.lease_noted s.gate (announced_in (tag ∷ rest)) (tag ∷ rest)) ≡ Some noted → HelperSame s noted
    by true two taken =
        let now = helper_after s (tag ∷ rest) in
        subst (HelperSame s) (of-if (passes_link (whole rest)) (tag ∷ rest) noted taken)
        (either (tag == 1) (tag == 2) (announced_in (tag ∷ rest)) now s two)
    by false two taken = helper-lease s tag rest noted (announced_in (tag ∷ rest)) refl taken

pub helper-same : (s : GatedHelper) (d : Door) (bytes noted : List ℕ) → helper.noted_at s.gate d bytes ≡ Some noted → HelperSame s noted
helper-same s door.Clients bytes noted is = helper-asked s (asked_in bytes) noted is
helper-same s door.Link bytes noted is = helper-command s (carried bytes) noted is
helper-same s door.Status bytes noted is = absurd (cc is)
helper-same s door.Dialled bytes noted is = absurd (cc is)

-- ---- the leader

abbrev LeaderSame : GatedLeader → List ℕ → Type 0
LeaderSame s noted = leader_behind s noted ≡ leader_after s noted

leader-client : (s : GatedLeader) (b : Bool) (frame noted : List ℕ) → record_if b (client_record frame) ≡ Some noted → LeaderSame s noted
leader-client s b frame noted is = subst (LeaderSame s) (of-if b (client_record frame) noted is) refl

asked-if : (s : GatedLeader) (b : Bool) (rest : List ℕ) → b ≡ true → ask_behind s (if b then Some (ask_in rest) else None) ≡ leader_asked s (ask_in rest)
asked-if s true rest is = refl
asked-if s false rest is = absurd (cc is)

leader-lease : (s : GatedLeader) (ask : Ask) (noted : List ℕ) → leader.ask_noted ask ≡ Some noted → LeaderSame s noted
leader-lease s ask noted is = by (length (ask_bytes ask) == 64) refl is
  where
    by : (b : Bool) → (length (ask_bytes ask) == 64) ≡ b → record_if b (20 ∷ ask_bytes ask) ≡ Some noted → LeaderSame s noted
    by true whole taken = subst (LeaderSame s) (some (20 ∷ ask_bytes ask) noted taken) (asked-if s (length (ask_bytes ask) == 64) (ask_bytes ask) whole)
    by false whole is = absurd (cc is)

leader-asked : (s : GatedLeader) (asked : Option PlainAsked) (noted : List ℕ) → leader.asked_noted s.leases.gate asked ≡ Some noted → LeaderSame s noted
leader-asked s None noted is = absurd (cc is)
leader-asked s (Some Preflight) noted is = absurd (cc is)
leader-asked s (Some (Refused why)) noted is = absurd (cc is)
leader-asked s (Some (Request (Frame ticket frame))) noted is = leader-client s (takes_bytes s.leases.gate ticket None frame) frame noted is
leader-asked s (Some (Request (Proof ticket statement frame))) noted is = leader-client s (takes_bytes s.leases.gate ticket (Some statement) frame) frame noted is
leader-asked s (Some (Request (Lease ticket other))) noted is = leader-lease s (record { own = ticket_hash ticket; helper = other }) noted is

both : (one two : Bool) (now other : GatedLeader) → two ≡ true → (if one then now else (if two then now else other)) ≡ now
both true two now other is = refl
both false true now other is = refl
both false false now other is = absurd (cc is)

leader-reply : (s : GatedLeader) (bytes noted : List ℕ) → leader.reply_noted bytes ≡ Some noted → LeaderSame s noted
leader-reply s [] noted is = absurd (cc is)
leader-reply s (tag ∷ rest) noted is = by (tag == 2) refl is
  where
    by : (b : Bool) → (tag == 2) ≡ b → (if b then record_if (is_frame (whole rest)) (tag ∷ rest) else None) ≡ Some noted → LeaderSame s noted
    by true two taken =
        subst (LeaderSame s) (of-if (is_frame (whole rest)) (tag ∷ rest) noted taken)
        (both (tag == 1) (tag == 2) (leader_after s (tag ∷ rest)) (if tag == 20 then ask_behind s (whole_ask rest) else s) two)
    by false two is = absurd (cc is)

pub leader-same : (s : GatedLeader) (d : Door) (bytes noted : List ℕ) → leader.noted_at s.leases.gate d bytes ≡ Some noted → LeaderSame s noted
leader-same s door.Clients bytes noted is = leader-asked s (asked_in bytes) noted is
leader-same s door.Dialled bytes noted is = leader-reply s (carried bytes) noted is
leader-same s door.Link bytes noted is = absurd (cc is)
leader-same s door.Status bytes noted is = absurd (cc is)
