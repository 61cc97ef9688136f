-- A record moves a core by the frame that its gate hands on, or leaves it.
use Rattle.std.proofs.Common.{◌≡◌, ◌==◌, ℕ, Bool, true, false, List, [], ◌∷◌, Option, Some, None}
use Rattle.std.proofs.Common.{refl, sym, ◌∙◌, ap}
use Rattle.frame_rules.specs.Whole.{whole}
use Rattle.step_rules.specs.HelperClients as helper_clients
use Rattle.step_rules.specs.HelperCommands.{on_link_bytes}
use Rattle.step_rules.specs.LeaderClients as leader_clients
use Rattle.step_rules.specs.LeaderReplies.{on_reply_bytes}
use Rattle.node_restart.specs.declared.frames.Sender.TheVariants.{Client, Peer}
use Rattle.node_restart.specs.declared.server.Core.{Core}
use Rattle.node_restart.specs.declared.server.Core.TheVariants.{Lead, Help}
use Rattle.node_restart.specs.Frames.{Handed, handed}
use Rattle.node_restart.specs.Steps.{fold_from, step_of, help_client, help_peer, lead_client, lead_peer}
use Rattle.gated_servers.specs.declared.helper.GatedHelper.{GatedHelper}
use Rattle.gated_servers.specs.declared.leader.GatedLeader.{GatedLeader}
use Rattle.gated_servers.specs.Frames.{is_frame, lane_in, passes_link, request_open}
use Rattle.gated_servers.specs.Helpers.{helper_after, helper_took}
use Rattle.gated_servers.specs.Leaders.{leader_after, leader_took}
use Rattle.gated_servers.specs.Runs.{HelpersTakeAPart, LeadersTakeAPart}
use Rattle.gated_laws.specs.Logs.{helper_hands, leader_hands}
use Rattle.gated_laws.proofs.Framed.{nothing_of}

abbrev pub core_behind : Core → Option Handed → Core
core_behind c None = c
core_behind c (Some h) = (step_of c h.sender h.frame).core

-- ---- a leader's

abbrev pub LeaderMoves : GatedLeader → List ℕ → Type 0
LeaderMoves s bytes = Lead (leader_after s bytes).leader ≡ core_behind (Lead s.leader) (leader_hands s bytes)

leader_goes : (s : GatedLeader) (bytes : List ℕ) (next : GatedLeader) (o : Option Handed)
    → leader_after s bytes ≡ next → leader_hands s bytes ≡ o
    → Lead next.leader ≡ core_behind (Lead s.leader) o → LeaderMoves s bytes
leader_goes s bytes next o after hands is =
    ap (λ (t : GatedLeader). Lead t.leader) after ∙ is ∙ ap (core_behind (Lead s.leader)) (sym hands)

pub leader_core : LeadersTakeAPart → (s : GatedLeader) (bytes : List ℕ) → LeaderMoves s bytes
unfolding lead_client lead_peer
leader_core leaders_take s [] = refl
leader_core leaders_take s (tag ∷ frame) = by (tag == 1) (tag == 2) refl refl
  where
    bytes : List ℕ
    bytes = tag ∷ frame

    heard : (b : Bool) → request_open s.leases.gate (whole frame) ≡ b → (tag == 1) ≡ true
        → LeaderMoves s bytes
    heard true may one =
        let next = leader_took s (lane_in (whole frame)) (leader_clients.on_client s.leader frame).leader in
        leader_goes s bytes next (Some (handed Client frame)) (rw one (rw may refl))
        (rw one (rw may refl)) refl
    heard false may one = leader_goes s bytes s None (rw one (rw may refl)) (rw one (rw may refl)) refl

    acked : (b : Bool) → is_frame (whole frame) ≡ b → (tag == 1) ≡ false → (tag == 2) ≡ true
        → LeaderMoves s bytes
    acked true may one two =
        let next = leader_took s (lane_in (whole frame)) (on_reply_bytes s.leader frame).leader in
        leader_goes s bytes next (Some (handed Peer frame)) (rw one (rw two (rw may refl)))
        (rw one (rw two (rw may refl))) refl
    acked false may one two =
        leader_goes s bytes s None (rw one (rw two (rw may refl))) (rw one (rw two (rw may refl))) refl

    by : (one two : Bool) → (tag == 1) ≡ one → (tag == 2) ≡ two → LeaderMoves s bytes
    by true two is-one is-two = heard (request_open s.leases.gate (whole frame)) refl is-one
    by false true is-one is-two = acked (is_frame (whole frame)) refl is-one is-two
    by false false is-one is-two =
        let took = leaders_take s (bytes ∷ []) in
        let none = nothing_of tag frame took.part is-one is-two took.came in
        leader_goes s bytes (leader_after s bytes) None refl (rw is-one (rw is-two refl))
        (took.folded ∙ ap (fold_from (Lead s.leader)) none)

-- ---- a helper's

abbrev pub HelperMoves : GatedHelper → List ℕ → Type 0
HelperMoves s bytes = Help (helper_after s bytes).helper ≡ core_behind (Help s.helper) (helper_hands s bytes)

helper_goes : (s : GatedHelper) (bytes : List ℕ) (next : GatedHelper) (o : Option Handed)
    → helper_after s bytes ≡ next → helper_hands s bytes ≡ o
    → Help next.helper ≡ core_behind (Help s.helper) o → HelperMoves s bytes
helper_goes s bytes next o after hands is =
    ap (λ (t : GatedHelper). Help t.helper) after ∙ is ∙ ap (core_behind (Help s.helper)) (sym hands)

pub helper_core : HelpersTakeAPart → (s : GatedHelper) (bytes : List ℕ) → HelperMoves s bytes
unfolding help_client help_peer
helper_core helpers_take s [] = refl
helper_core helpers_take s (tag ∷ frame) = by (tag == 1) (tag == 2) refl refl
  where
    bytes : List ℕ
    bytes = tag ∷ frame

    heard : (b : Bool) → request_open s.gate (whole frame) ≡ b → (tag == 1) ≡ true → HelperMoves s bytes
    heard true may one =
        let next = helper_took s (lane_in (whole frame)) (helper_clients.on_client s.helper frame).helper in
        helper_goes s bytes next (Some (handed Client frame)) (rw one (rw may refl))
        (rw one (rw may refl)) refl
    heard false may one = helper_goes s bytes s None (rw one (rw may refl)) (rw one (rw may refl)) refl

    commanded : (b : Bool) → passes_link (whole frame) ≡ b → (tag == 1) ≡ false → (tag == 2) ≡ true
        → HelperMoves s bytes
    commanded true may one two =
        let next = helper_took s (lane_in (whole frame)) (on_link_bytes s.helper frame).helper in
        helper_goes s bytes next (Some (handed Peer frame)) (rw one (rw two (rw may refl)))
        (rw one (rw two (rw may refl))) refl
    commanded false may one two =
        helper_goes s bytes s None (rw one (rw two (rw may refl))) (rw one (rw two (rw may refl))) refl

    by : (one two : Bool) → (tag == 1) ≡ one → (tag == 2) ≡ two → HelperMoves s bytes
    by true two is-one is-two = heard (request_open s.gate (whole frame)) refl is-one
    by false true is-one is-two = commanded (passes_link (whole frame)) refl is-one is-two
    by false false is-one is-two =
        let took = helpers_take s (bytes ∷ []) in
        let none = nothing_of tag frame took.part is-one is-two took.came in
        helper_goes s bytes (helper_after s bytes) None refl (rw is-one (rw is-two refl))
        (took.folded ∙ ap (fold_from (Help s.helper)) none)
