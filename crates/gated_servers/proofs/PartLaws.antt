-- A gated core takes a part of the frames of its log.
use Rattle.std.proofs.Common.{◌≡◌, ◌==◌, inl, inr, ℕ, Bool, true, false, cond, List, [], ◌∷◌, Option, Some, None, refl, sym, ◌∙◌, ap, subst}
use Rattle.frame_rules.specs.Whole.{whole}
use Rattle.node_restart.specs.declared.frames.Sender.{Sender}
use Rattle.node_restart.specs.declared.frames.Sender.TheVariants.{Client, Peer}
use Rattle.node_restart.specs.declared.server.Core.{Core}
use Rattle.node_restart.specs.declared.server.Core.TheVariants.{Lead, Help}
use Rattle.node_restart.specs.Frames.{Handed, handed}
use Rattle.node_restart.specs.Steps.{fold_from, step_of, help_client, help_peer, lead_client, lead_peer}
use Rattle.step_rules.specs.HelperClients as helper_clients
use Rattle.step_rules.specs.HelperCommands.{on_link_bytes}
use Rattle.step_rules.specs.LeaderClients as leader_clients
use Rattle.step_rules.specs.LeaderReplies.{on_reply_bytes}
use Rattle.lane_leases.specs.declared.ask.Ask.{Ask}
use Rattle.lane_gate.specs.declared.note.Note.{Note}
use Rattle.leader_core.specs.declared.standing.Standing.{Standing}
use Rattle.leader_core.specs.declared.standing.Standing.TheVariants.{Busy, Written, Other}
use Rattle.lane_gate.specs.Gates.{Answer, if_taken}
use Rattle.std.proofs.Common.{Ok, Err}
use Rattle.gated_servers.specs.declared.helper.GatedHelper.{GatedHelper}
use Rattle.gated_servers.specs.declared.leader.GatedLeader.{GatedLeader}
use Rattle.gated_servers.specs.Frames.{is_frame, lane_in, passes_link, request_open}
use Rattle.gated_servers.specs.Helpers.{helper_after, helper_commanded, helper_heard, helper_noted, helper_took}
use Rattle.gated_servers.specs.Leaders.{leader_acked, leader_after, leader_asked, leader_ended, leader_heard, leader_told, leader_took, leased_at, leased_if, with_leased, standing_of}
use Rattle.gated_servers.specs.Records.{ask_in, ended_of, note_in}
use Rattle.lane_leases.specs.Choosing.{longest_of}
use Rattle.gated_servers.specs.Runs.{AreTaken, HelperTook, HelpersTakeAPart, IsPartOf, IsTaken, LeaderTook, LeadersTakeAPart, frames_in, framed, helper_behind, leader_behind}

-- ---- the frame of a record

client_framed : (tag : ℕ) (frame : List ℕ) (rest : List Handed) → (tag == 1) ≡ true → framed (tag ∷ frame) rest ≡ handed Client frame ∷ rest
client_framed tag frame rest one = ap (λ (b : Bool). cond b (handed Client frame ∷ rest) (cond (tag == 2) (handed Peer frame ∷ rest) rest)) one

peer_framed : (tag : ℕ) (frame : List ℕ) (rest : List Handed) → (tag == 1) ≡ false → (tag == 2) ≡ true → framed (tag ∷ frame) rest ≡ handed Peer frame ∷ rest
peer_framed tag frame rest one two =
    ap (λ (b : Bool). cond b (handed Client frame ∷ rest) (cond (tag == 2) (handed Peer frame ∷ rest) rest)) one
    ∙ ap (λ (b : Bool). cond b (handed Peer frame ∷ rest) rest) two

not_framed : (tag : ℕ) (frame : List ℕ) (rest : List Handed) → (tag == 1) ≡ false → (tag == 2) ≡ false → framed (tag ∷ frame) rest ≡ rest
not_framed tag frame rest one two =
    ap (λ (b : Bool). cond b (handed Client frame ∷ rest) (cond (tag == 2) (handed Peer frame ∷ rest) rest)) one
    ∙ ap (λ (b : Bool). cond b (handed Peer frame ∷ rest) rest) two

clients_are_taken : (frame : List ℕ) → IsTaken (handed Client frame)
clients_are_taken frame is = absurd (cc is)

-- ---- a helper

helper_takes : (before next : GatedHelper) (bytes : List ℕ) (records : List (List ℕ)) (h : Handed) → helper_after before bytes ≡ next
    → framed bytes (frames_in records) ≡ h ∷ frames_in records → IsTaken h → Help next.helper ≡ (step_of (Help before.helper) h.sender h.frame).core
    → HelperTook next records → HelperTook before (bytes ∷ records)
helper_takes before next bytes records h is frame taken stepped rest = record {
  part = h ∷ rest.part;
  came = subst (IsPartOf (h ∷ rest.part)) (sym frame) (inl (rest.part, refl, rest.came));
  taken = (taken, rest.taken);
  folded = ap (λ (s : GatedHelper). Help (helper_behind s records).helper) is ∙ rest.folded ∙ ap (λ (c : Core). fold_from c rest.part) stepped;
}

helper_loses : (before next : GatedHelper) (bytes : List ℕ) (records : List (List ℕ)) (h : Handed) → helper_after before bytes ≡ next
    → framed bytes (frames_in records) ≡ h ∷ frames_in records → next ≡ before
    → HelperTook next records → HelperTook before (bytes ∷ records)
helper_loses before next bytes records h is frame same rest = record {
  part = rest.part;
  came = subst (IsPartOf rest.part) (sym frame) (inr rest.came);
  taken = rest.taken;
  folded = ap (λ (s : GatedHelper). Help (helper_behind s records).helper) is ∙ rest.folded ∙ ap (λ (s : GatedHelper). fold_from (Help s.helper) rest.part) same;
}

helper_notes : (before next : GatedHelper) (bytes : List ℕ) (records : List (List ℕ)) → helper_after before bytes ≡ next
    → framed bytes (frames_in records) ≡ frames_in records → next.helper ≡ before.helper
    → HelperTook next records → HelperTook before (bytes ∷ records)
helper_notes before next bytes records is frame same rest = record {
  part = rest.part;
  came = subst (IsPartOf rest.part) (sym frame) rest.came;
  taken = rest.taken;
  folded = ap (λ (s : GatedHelper). Help (helper_behind s records).helper) is ∙ rest.folded ∙ ap (λ h. fold_from (Help h) rest.part) same;
}

noted_core : (s : GatedHelper) (note : Option Note) → (helper_noted s note).helper ≡ s.helper
noted_core s None = refl
noted_core s (Some note) = refl

pub helpers_take : HelpersTakeAPart
unfolding help_client help_peer
helpers_take before [] = record { part = []; came = refl; taken = tt; folded = refl }
helpers_take before ([] ∷ records) =
    let rest = helpers_take before records in
    record { part = rest.part; came = rest.came; taken = rest.taken; folded = rest.folded }
helpers_take before ((tag ∷ frame) ∷ records) = by (λ s. helpers_take s records) (tag == 1) (tag == 2) refl refl
  where
    bytes : List ℕ
    bytes = tag ∷ frame

    heard : ((s : GatedHelper) → HelperTook s records) → (b : Bool) → request_open before.gate (whole frame) ≡ b → (tag == 1) ≡ true → HelperTook before (bytes ∷ records)
    heard later true may one =
        let next = helper_took before (lane_in (whole frame)) (helper_clients.on_client before.helper frame).helper in
        let is : helper_after before bytes ≡ next = rw one (rw may refl) in
        helper_takes before next bytes records (handed Client frame) is (client_framed tag frame (frames_in records) one) (clients_are_taken frame) refl (later next)
    heard later false may one =
        let is : helper_after before bytes ≡ before = rw one (rw may refl) in
        helper_loses before before bytes records (handed Client frame) is (client_framed tag frame (frames_in records) one) refl (later before)

    commanded : ((s : GatedHelper) → HelperTook s records) → (b : Bool) → passes_link (whole frame) ≡ b → (tag == 1) ≡ false → (tag == 2) ≡ true → HelperTook before (bytes ∷ records)
    commanded later true passed one two =
        let next = helper_took before (lane_in (whole frame)) (on_link_bytes before.helper frame).helper in
        let is : helper_after before bytes ≡ next = rw one (rw two (rw passed refl)) in
        helper_takes before next bytes records (handed Peer frame) is (peer_framed tag frame (frames_in records) one two) (λ peer. passed) refl (later next)
    commanded later false passed one two =
        let is : helper_after before bytes ≡ before = rw one (rw two (rw passed refl)) in
        helper_loses before before bytes records (handed Peer frame) is (peer_framed tag frame (frames_in records) one two) refl (later before)

    by : ((s : GatedHelper) → HelperTook s records) → (one two : Bool) → (tag == 1) ≡ one → (tag == 2) ≡ two → HelperTook before (bytes ∷ records)
    by later true two is-one is-two = heard later (request_open before.gate (whole frame)) refl is-one
    by later false true is-one is-two = commanded later (passes_link (whole frame)) refl is-one is-two
    by later false false is-one is-two =
        let next = helper_noted before (note_in tag frame) in
        let is : helper_after before bytes ≡ next = rw is-one (rw is-two refl) in
        helper_notes before next bytes records is (not_framed tag frame (frames_in records) is-one is-two) (noted_core before (note_in tag frame)) (later next)

-- ---- a leader

leader_takes : (before next : GatedLeader) (bytes : List ℕ) (records : List (List ℕ)) (h : Handed) → leader_after before bytes ≡ next
    → framed bytes (frames_in records) ≡ h ∷ frames_in records → Lead next.leader ≡ (step_of (Lead before.leader) h.sender h.frame).core
    → LeaderTook next records → LeaderTook before (bytes ∷ records)
leader_takes before next bytes records h is frame stepped rest = record {
  part = h ∷ rest.part;
  came = subst (IsPartOf (h ∷ rest.part)) (sym frame) (inl (rest.part, refl, rest.came));
  folded = ap (λ (s : GatedLeader). Lead (leader_behind s records).leader) is ∙ rest.folded ∙ ap (λ (c : Core). fold_from c rest.part) stepped;
}

leader_loses : (before next : GatedLeader) (bytes : List ℕ) (records : List (List ℕ)) (h : Handed) → leader_after before bytes ≡ next
    → framed bytes (frames_in records) ≡ h ∷ frames_in records → next ≡ before
    → LeaderTook next records → LeaderTook before (bytes ∷ records)
leader_loses before next bytes records h is frame same rest = record {
  part = rest.part;
  came = subst (IsPartOf rest.part) (sym frame) (inr rest.came);
  folded = ap (λ (s : GatedLeader). Lead (leader_behind s records).leader) is ∙ rest.folded ∙ ap (λ (s : GatedLeader). fold_from (Lead s.leader) rest.part) same;
}

leader_notes : (before next : GatedLeader) (bytes : List ℕ) (records : List (List ℕ)) → leader_after before bytes ≡ next
    → framed bytes (frames_in records) ≡ frames_in records → next.leader ≡ before.leader
    → LeaderTook next records → LeaderTook before (bytes ∷ records)
leader_notes before next bytes records is frame same rest = record {
  part = rest.part;
  came = subst (IsPartOf rest.part) (sym frame) rest.came;
  folded = ap (λ (s : GatedLeader). Lead (leader_behind s records).leader) is ∙ rest.folded ∙ ap (λ h. fold_from (Lead h) rest.part) same;
}

told_core : (s : GatedLeader) (note : Option Note) → (leader_told s note).leader ≡ s.leader
told_core s None = refl
told_core s (Some note) = refl

taken_core : (answer : Answer) (a b : GatedLeader) → a.leader ≡ b.leader → (if_taken answer a b).leader ≡ b.leader
taken_core (Ok done) a b same = same
taken_core (Err fault) a b same = refl

if_core : (standing : Standing) (leased s : GatedLeader) → leased.leader ≡ s.leader → (leased_if standing leased s).leader ≡ s.leader
if_core Busy leased s same = refl
if_core (Written serial) leased s same = same
if_core Other leased s same = same

asked_core : (found : Option ℕ) (s : GatedLeader) (ask : Ask) → (leased_at found s ask).leader ≡ s.leader
asked_core None s ask = refl
asked_core (Some lane) s ask = if_core (standing_of s lane) (with_leased s lane ask) s (taken_core _ _ s refl)

pub leaders_take : LeadersTakeAPart
unfolding lead_client lead_peer
leaders_take before [] = record { part = []; came = refl; folded = refl }
leaders_take before ([] ∷ records) =
    let rest = leaders_take before records in
    record { part = rest.part; came = rest.came; folded = rest.folded }
leaders_take before ((tag ∷ frame) ∷ records) = by (λ s. leaders_take s records) (tag == 1) (tag == 2) refl refl
  where
    bytes : List ℕ
    bytes = tag ∷ frame

    heard : ((s : GatedLeader) → LeaderTook s records) → (b : Bool) → request_open before.leases.gate (whole frame) ≡ b → (tag == 1) ≡ true → LeaderTook before (bytes ∷ records)
    heard later true may one =
        let next = leader_took before (lane_in (whole frame)) (leader_clients.on_client before.leader frame).leader in
        let is : leader_after before bytes ≡ next = rw one (rw may refl) in
        leader_takes before next bytes records (handed Client frame) is (client_framed tag frame (frames_in records) one) refl (later next)
    heard later false may one =
        let is : leader_after before bytes ≡ before = rw one (rw may refl) in
        leader_loses before before bytes records (handed Client frame) is (client_framed tag frame (frames_in records) one) refl (later before)

    acked : ((s : GatedLeader) → LeaderTook s records) → (b : Bool) → is_frame (whole frame) ≡ b → (tag == 1) ≡ false → (tag == 2) ≡ true → LeaderTook before (bytes ∷ records)
    acked later true passed one two =
        let next = leader_took before (lane_in (whole frame)) (on_reply_bytes before.leader frame).leader in
        let is : leader_after before bytes ≡ next = rw one (rw two (rw passed refl)) in
        leader_takes before next bytes records (handed Peer frame) is (peer_framed tag frame (frames_in records) one two) refl (later next)
    acked later false passed one two =
        let is : leader_after before bytes ≡ before = rw one (rw two (rw passed refl)) in
        leader_loses before before bytes records (handed Peer frame) is (peer_framed tag frame (frames_in records) one two) refl (later before)

    noted : ((s : GatedLeader) → LeaderTook s records) → (asks ends : Bool) → (tag == 20) ≡ asks → (tag == 21) ≡ ends → (tag == 1) ≡ false → (tag == 2) ≡ false → LeaderTook before (bytes ∷ records)
    noted later true ends is-ask is-end one two =
        let next = leader_asked before (ask_in frame) in
        let is : leader_after before bytes ≡ next = rw one (rw two (rw is-ask refl)) in
        leader_notes before next bytes records is (not_framed tag frame (frames_in records) one two) (asked_core (longest_of before.leases.gate.rows) before (ask_in frame)) (later next)
    noted later false true is-ask is-end one two =
        let next = leader_ended before (ended_of frame) in
        let is : leader_after before bytes ≡ next = rw one (rw two (rw is-ask (rw is-end refl))) in
        leader_notes before next bytes records is (not_framed tag frame (frames_in records) one two) refl (later next)
    noted later false false is-ask is-end one two =
        let next = leader_told before (note_in tag frame) in
        let is : leader_after before bytes ≡ next = rw one (rw two (rw is-ask (rw is-end refl))) in
        leader_notes before next bytes records is (not_framed tag frame (frames_in records) one two) (told_core before (note_in tag frame)) (later next)

    by : ((s : GatedLeader) → LeaderTook s records) → (one two : Bool) → (tag == 1) ≡ one → (tag == 2) ≡ two → LeaderTook before (bytes ∷ records)
    by later true two is-one is-two = heard later (request_open before.leases.gate (whole frame)) refl is-one
    by later false true is-one is-two = acked later (is_frame (whole frame)) refl is-one is-two
    by later false false is-one is-two = noted later (tag == 20) (tag == 21) refl refl is-one is-two
