-- The frame that a gate hands on is the one that its record has.
use Rattle.std.proofs.Common.{◌≡◌, ◌==◌, ℕ, Bool, true, false, List, [], ◌∷◌, Option, Some, None}
use Rattle.std.proofs.Common.{if◌then◌else◌, refl, sym, ◌∙◌, ap, subst}
use Rattle.frame_rules.specs.Whole.{whole}
use Rattle.node_restart.specs.declared.frames.Sender.TheVariants.{Client, Peer}
use Rattle.node_restart.specs.Frames.{Handed, handed}
use Rattle.log_laws.specs.Journals.{AreForeign}
use Rattle.gated_servers.specs.declared.helper.GatedHelper.{GatedHelper}
use Rattle.gated_servers.specs.declared.leader.GatedLeader.{GatedLeader}
use Rattle.gated_servers.specs.Frames.{is_frame, passes_link, request_open}
use Rattle.gated_servers.specs.Runs.{IsPartOf, framed}
use Rattle.gated_laws.specs.Logs.{frame_if, helper_hands, leader_hands}

-- ---- a record by its tag

client_framed : (tag : ℕ) (frame : List ℕ) (rest : List Handed) → (tag == 1) ≡ true
    → framed (tag ∷ frame) rest ≡ handed Client frame ∷ rest
client_framed tag frame rest one = rw one refl

peer_framed : (tag : ℕ) (frame : List ℕ) (rest : List Handed) → (tag == 1) ≡ false → (tag == 2) ≡ true
    → framed (tag ∷ frame) rest ≡ handed Peer frame ∷ rest
peer_framed tag frame rest one two = rw one (rw two refl)

not_framed : (tag : ℕ) (frame : List ℕ) (rest : List Handed) → (tag == 1) ≡ false → (tag == 2) ≡ false
    → framed (tag ∷ frame) rest ≡ rest
not_framed tag frame rest one two = rw one (rw two refl)

-- a record that is no frame's has no part
pub nothing_of : (tag : ℕ) (frame : List ℕ) (part : List Handed) → (tag == 1) ≡ false → (tag == 2) ≡ false
    → IsPartOf part (framed (tag ∷ frame) []) → part ≡ []
nothing_of tag frame part one two came = subst (IsPartOf part) (not_framed tag frame [] one two) came

-- frames from outside, without the first
pub fewer_foreign : (foreign : ℕ → Bool) (bytes : List ℕ) (rest : List Handed)
    → AreForeign foreign (framed bytes rest) → AreForeign foreign rest
fewer_foreign foreign [] rest are = are
fewer_foreign foreign (tag ∷ frame) rest are = by (tag == 1) (tag == 2) refl refl
  where
    by : (one two : Bool) → (tag == 1) ≡ one → (tag == 2) ≡ two → AreForeign foreign rest
    by true two is-one is-two =
        let all = subst (AreForeign foreign) (client_framed tag frame rest is-one) are in all.1
    by false true is-one is-two =
        let all = subst (AreForeign foreign) (peer_framed tag frame rest is-one is-two) are in all.1
    by false false is-one is-two = subst (AreForeign foreign) (not_framed tag frame rest is-one is-two) are

-- ---- what a gate hands on

-- what a gate hands on where these are what it says of a client's frame and of the other server's
abbrev hands : (client peer : Bool) → ℕ → List ℕ → Option Handed
hands client peer tag frame =
    if tag == 1 then frame_if client (handed Client frame) else
    (if tag == 2 then frame_if peer (handed Peer frame) else None)

if_handed : (b : Bool) (one h : Handed) → frame_if b one ≡ Some h → one ≡ h
if_handed true one h is = cc
if_handed false one h is = absurd (cc is)

hands_frame : (client peer : Bool) (tag : ℕ) (frame : List ℕ) (h : Handed) (rest : List Handed)
    → hands client peer tag frame ≡ Some h → framed (tag ∷ frame) rest ≡ h ∷ rest
hands_frame client peer tag frame h rest is = by (tag == 1) (tag == 2) refl refl
  where
    by : (one two : Bool) → (tag == 1) ≡ one → (tag == 2) ≡ two → framed (tag ∷ frame) rest ≡ h ∷ rest
    by true two is-one is-two =
        let now : hands client peer tag frame ≡ frame_if client (handed Client frame) = rw is-one refl in
        let same = if_handed client (handed Client frame) h (sym now ∙ is) in
        client_framed tag frame rest is-one ∙ ap (λ x. x ∷ rest) same
    by false true is-one is-two =
        let now : hands client peer tag frame ≡ frame_if peer (handed Peer frame) =
        rw is-one (rw is-two refl) in
        let same = if_handed peer (handed Peer frame) h (sym now ∙ is) in
        peer_framed tag frame rest is-one is-two ∙ ap (λ x. x ∷ rest) same
    by false false is-one is-two =
        let now : hands client peer tag frame ≡ None = rw is-one (rw is-two refl) in
        let no = sym now ∙ is in absurd (cc no)

pub leader_framed : (s : GatedLeader) (bytes : List ℕ) (h : Handed) (rest : List Handed)
    → leader_hands s bytes ≡ Some h → framed bytes rest ≡ h ∷ rest
leader_framed s [] h rest is = absurd (cc is)
leader_framed s (tag ∷ frame) h rest is =
    hands_frame (request_open s.leases.gate (whole frame)) (is_frame (whole frame)) tag frame h rest is

pub helper_framed : (s : GatedHelper) (bytes : List ℕ) (h : Handed) (rest : List Handed)
    → helper_hands s bytes ≡ Some h → framed bytes rest ≡ h ∷ rest
helper_framed s [] h rest is = absurd (cc is)
helper_framed s (tag ∷ frame) h rest is =
    hands_frame (request_open s.gate (whole frame)) (passes_link (whole frame)) tag frame h rest is
