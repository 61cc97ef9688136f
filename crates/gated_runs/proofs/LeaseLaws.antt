-- The leases that a log's records give are those of a gate's notes.
use Rattle.std.proofs.Common.{◌≡◌, ◌==◌, ℕ, Bool, true, false, List, [], ◌∷◌, Option, Some, None, Ok, Err}
use Rattle.std.proofs.Common.{refl, sym, ◌∙◌, ap, subst, if◌then◌else◌}
use Rattle.std.proofs.lemmas.Bool.{eqb-true}
use Rattle.frame_rules.specs.Whole.{whole}
use Rattle.step_rules.specs.Helper as helper
use Rattle.step_rules.specs.HelperClients as helper_clients
use Rattle.step_rules.specs.HelperCommands.{on_link_bytes}
use Rattle.step_rules.specs.Leader as leader
use Rattle.step_rules.specs.LeaderClients as leader_clients
use Rattle.step_rules.specs.LeaderReplies.{on_reply_bytes}
use Rattle.helper_core.specs.Challenged as helper_challenged
use Rattle.leader_core.specs.Challenged as leader_challenged
use Rattle.leader_core.specs.declared.standing.Standing.{Standing}
use Rattle.leader_core.specs.declared.standing.Standing.TheVariants.{Busy, Written, Other}
use Rattle.server_boxes.specs.Challenged.{PlainChallenged}
use Rattle.lane_gate.specs.declared.note.Note.{Note}
use Rattle.lane_gate.specs.declared.note.Note.TheVariants.{Key, Statement, Lease}
use Rattle.lane_gate.specs.Gates.{Answer, GateState, after_note, if_taken, lease_answer, row_at}
use Rattle.lane_gate.specs.Holders.{last_serial}
use Rattle.lane_gate.specs.Runs.{Granted, Rise, granted}
use Rattle.lane_gate.proofs.LeaseLaws.{leases-rise}
use Rattle.lane_leases.specs.declared.ask.Ask.{Ask}
use Rattle.lane_leases.specs.declared.ended.Ended.{Ended}
use Rattle.lane_leases.specs.Choosing.{longest_of}
use Rattle.lane_leases.specs.Leases.{LeasesState, with_gate}
use Rattle.gated_servers.specs.declared.helper.GatedHelper.{GatedHelper}
use Rattle.gated_servers.specs.declared.leader.GatedLeader.{GatedLeader}
use Rattle.gated_servers.specs.Frames.{is_frame, lane_in, passes_link, request_open}
use Rattle.gated_servers.specs.Helpers.{helper_after, helper_commanded, helper_heard, helper_noted}
use Rattle.gated_servers.specs.Helpers.{helper_took}
use Rattle.gated_servers.specs.Leaders.{ended_in, leader_acked, leader_after, leader_asked, leader_ended}
use Rattle.gated_servers.specs.Leaders.{leader_heard, leader_told, leader_took}
use Rattle.gated_servers.specs.Leaders.{leased_at, leased_if, serial_behind, standing_of, with_ended}
use Rattle.gated_servers.specs.Leaders.{with_leased}
use Rattle.gated_servers.specs.Records.{ask_in, ended_of, note_in}
use Rattle.gated_servers.specs.Statements.{statement_note, with_statement_of}
use Rattle.many_servers.specs.Leaders.{given_at, given_if, lease_given, lease_of, unless_busy}
use Rattle.gated_runs.specs.Leases.{HelpersLeaseOnce, LeadersLeaseOnce, given_before, helper_gives}
use Rattle.gated_runs.specs.Leases.{helper_leases, lease_before}
use Rattle.gated_runs.specs.Leases.{leader_gives, leader_leases, noted_before}

-- ---- what a record changes of a gate, and the lease that it gives, are a note's

abbrev after_some : GateState → Option Note → GateState
after_some gate None = gate
after_some gate (Some note) = after_note gate note

record Changes (gate now : GateState) (gives : List Granted → List Granted) : Type 0 where
  note : Option Note
  is : now ≡ after_some gate note
  given : (later : List Granted) → gives later ≡ noted_before gate note later

abbrev nothing : List Granted → List Granted
nothing later = later

stays : (gate : GateState) → Changes gate gate nothing
stays gate = record { note = None; is = refl; given = λ later. refl }

states : (lane : ℕ) (write : Option PlainChallenged) (gate : GateState)
    → Changes gate (with_statement_of lane write gate) nothing
states lane None gate = stays gate
states lane (Some write) gate =
    record { note = Some (statement_note lane write); is = refl; given = λ later. refl }

granted-next : (gate : GateState) (note : Note) (notes : List Note)
    → granted gate (note ∷ notes) ≡ noted_before gate (Some note) (granted (after_note gate note) notes)
granted-next gate (Key lane hash) notes = refl
granted-next gate (Statement lane serial hash) notes = refl
granted-next gate (Lease lane serial hash) notes = refl

abbrev AreOfNotes : GateState → List Granted → Type 0
AreOfNotes gate leases = (notes : List Note) × (leases ≡ granted gate notes)

-- a record before others whose leases are those of notes
before : (gate now : GateState) (gives : List Granted → List Granted) (later : List Granted)
    → Changes gate now gives
    → AreOfNotes now later → AreOfNotes gate (gives later)
before gate now gives later change rest = by change.note change.is change.given
  where
    by : (o : Option Note) → now ≡ after_some gate o
        → ((later : List Granted) → gives later ≡ noted_before gate o later)
        → AreOfNotes gate (gives later)
    by None is given = (rest.0, given later ∙ rest.1 ∙ ap (λ (g : GateState). granted g rest.0) is)
    by (Some note) is given = (
      note ∷ rest.0,
      given later ∙ ap (noted_before gate (Some note)) (rest.1 ∙ ap (λ (g : GateState). granted g rest.0) is)
          ∙ sym (granted-next gate note rest.0),
    )

-- ---- a helper

helper-notes : (s : GatedHelper) (o : Option Note)
    → Changes s.gate (helper_noted s o).gate (noted_before s.gate o)
helper-notes s None = stays s.gate
helper-notes s (Some note) = record { note = Some note; is = refl; given = λ later. refl }

helper-took : (s : GatedHelper) (b : Bool) (lane : ℕ) (core : helper.Helper)
    → Changes s.gate (if b then helper_took s lane core else s).gate nothing
helper-took s true lane core =
    states lane (helper_challenged.challenged_in (helper.row_at core.server lane)) s.gate
helper-took s false lane core = stays s.gate

helper-changes : (s : GatedHelper) (bytes : List ℕ)
    → Changes s.gate (helper_after s bytes).gate (helper_gives s bytes)
helper-changes s [] = stays s.gate
helper-changes s (tag ∷ rest) = by (tag == 1) (tag == 2) refl refl
  where
    by : (one two : Bool) → (tag == 1) ≡ one → (tag == 2) ≡ two
        → Changes s.gate (if one then helper_heard s rest
        else (if two then helper_commanded s rest else helper_noted s (note_in tag rest))).gate
        (helper_gives s (tag ∷ rest))
    by true two is-one is-two =
        subst (λ (t : ℕ). Changes s.gate (helper_heard s rest).gate (helper_gives s (t ∷ rest)))
        (sym (eqb-true tag 1 is-one))
        (helper-took s (request_open s.gate (whole rest)) (lane_in (whole rest))
        (helper_clients.on_client s.helper rest).helper)
    by false true is-one is-two =
        subst (λ (t : ℕ). Changes s.gate (helper_commanded s rest).gate (helper_gives s (t ∷ rest)))
        (sym (eqb-true tag 2 is-two))
        (helper-took s (passes_link (whole rest)) (lane_in (whole rest)) (on_link_bytes s.helper rest).helper)
    by false false is-one is-two = helper-notes s (note_in tag rest)

helper-of-notes : (s : GatedHelper) (records : List (List ℕ)) → AreOfNotes s.gate (helper_leases s records)
helper-of-notes s [] = ([], refl)
helper-of-notes s (bytes ∷ records) =
    let now = helper_after s bytes in
    before s.gate now.gate (helper_gives s bytes) (helper_leases now records) (helper-changes s bytes)
    (helper-of-notes now records)

pub helpers-lease-once : HelpersLeaseOnce
helpers-lease-once s records =
    let all = helper-of-notes s records in
    subst Rise (sym all.1) (leases-rise s.gate all.0)

-- ---- a leader

leader-notes : (s : GatedLeader) (o : Option Note)
    → Changes s.leases.gate (leader_told s o).leases.gate (noted_before s.leases.gate o)
leader-notes s None = stays s.leases.gate
leader-notes s (Some note) = record { note = Some note; is = refl; given = λ later. refl }

leader-took : (s : GatedLeader) (b : Bool) (lane : ℕ) (core : leader.Leader)
    → Changes s.leases.gate (if b then leader_took s lane core else s).leases.gate nothing
leader-took s true lane core =
    states lane (leader_challenged.challenged_in (leader.row_at core lane)) s.leases.gate
leader-took s false lane core = stays s.leases.gate

ended-gate : (ended : Option Ended) (leases : LeasesState) → (with_ended ended leases).gate ≡ leases.gate
ended-gate None leases = refl
ended-gate (Some ended) leases = refl

ends : (s : GatedLeader) (ended : Option Ended)
    → Changes s.leases.gate (leader_ended s ended).leases.gate nothing
ends s ended = record { note = None; is = ended-gate ended s.leases; given = λ later. refl }

abbrev next_serial : GatedLeader → ℕ → ℕ
next_serial s lane = serial_behind (last_serial (row_at s.leases.gate.rows lane).holder)

abbrev noted_lease : GatedLeader → ℕ → Ask → LeasesState
noted_lease s lane ask = with_gate s.leases
    (after_note s.leases.gate (Lease lane (next_serial s lane) ask.own))

abbrev last_end : GatedLeader → ℕ → Option Ended
last_end s lane = ended_in (row_at s.leases.gate.rows lane).holder (standing_of s lane)

abbrev leased_now : GatedLeader → ℕ → Ask → GatedLeader
leased_now s lane ask = record s { leases = with_ended (last_end s lane) (noted_lease s lane ask) }

leases-by : (s : GatedLeader) (lane : ℕ) (ask : Ask) (answer : Answer)
    → lease_answer s.leases.gate lane (next_serial s lane) ≡ answer
    → Changes s.leases.gate (if_taken answer (leased_now s lane ask) s).leases.gate
    (given_before (given_if answer (lease_of s lane ask)))
leases-by s lane ask (Ok tt) taken = record {
  note = Some (Lease lane (next_serial s lane) ask.own);
  is = ended-gate (last_end s lane) (noted_lease s lane ask);
  given = λ later. ap (λ (a : Answer). if_taken a (lease_before lane (next_serial s lane) later) later)
      (sym taken);
}
leases-by s lane ask (Err fault) taken = stays s.leases.gate

leases-lane : (s : GatedLeader) (lane : ℕ) (ask : Ask)
    → Changes s.leases.gate (with_leased s lane ask).leases.gate
    (given_before (given_if (lease_answer s.leases.gate lane (lease_of s lane ask).serial)
    (lease_of s lane ask)))
leases-lane s lane ask = leases-by s lane ask (lease_answer s.leases.gate lane (next_serial s lane)) refl

leases-some : (s : GatedLeader) (ask : Ask) (o : Option ℕ)
    → Changes s.leases.gate (leased_at o s ask).leases.gate (given_before (given_at o s ask))
leases-some s ask None = stays s.leases.gate
leases-some s ask (Some lane) = by (standing_of s lane)
  where
    by : (standing : Standing)
        → Changes s.leases.gate (leased_if standing (with_leased s lane ask) s).leases.gate
        (given_before (unless_busy standing
        (given_if (lease_answer s.leases.gate lane (lease_of s lane ask).serial) (lease_of s lane ask))))
    by Busy = stays s.leases.gate
    by (Written serial) = leases-lane s lane ask
    by Other = leases-lane s lane ask

abbrev gives_if : GatedLeader → Bool → ℕ → List ℕ → List Granted → List Granted
gives_if s b tag rest later =
    if b then given_before (lease_given s (ask_in rest)) later else noted_before s.leases.gate
    (note_in tag rest) later

leader-changes : (s : GatedLeader) (bytes : List ℕ)
    → Changes s.leases.gate (leader_after s bytes).leases.gate (leader_gives s bytes)
leader-changes s [] = stays s.leases.gate
leader-changes s (tag ∷ rest) = by (tag == 1) (tag == 2) (tag == 20) (tag == 21) refl refl refl refl
  where
    by : (one two ask end : Bool) → (tag == 1) ≡ one → (tag == 2) ≡ two → (tag == 20) ≡ ask
        → (tag == 21) ≡ end
        → Changes s.leases.gate (if one then leader_heard s rest else (if two then leader_acked s rest else
        (if ask then leader_asked s (ask_in rest) else
        (if end then leader_ended s (ended_of rest) else leader_told s (note_in tag rest))))).leases.gate
        (leader_gives s (tag ∷ rest))
    by true two ask end is-one is-two is-ask is-end =
        subst (λ (t : ℕ). Changes s.leases.gate (leader_heard s rest).leases.gate (leader_gives s (t ∷ rest)))
        (sym (eqb-true tag 1 is-one))
        (leader-took s (request_open s.leases.gate (whole rest)) (lane_in (whole rest))
        (leader_clients.on_client s.leader rest).leader)
    by false true ask end is-one is-two is-ask is-end =
        subst (λ (t : ℕ). Changes s.leases.gate (leader_acked s rest).leases.gate (leader_gives s (t ∷ rest)))
        (sym (eqb-true tag 2 is-two))
        (leader-took s (is_frame (whole rest)) (lane_in (whole rest)) (on_reply_bytes s.leader rest).leader)
    by false false true end is-one is-two is-ask is-end =
        subst (λ (t : ℕ). Changes s.leases.gate (leader_asked s (ask_in rest)).leases.gate
        (leader_gives s (t ∷ rest)))
        (sym (eqb-true tag 20 is-ask))
        (leases-some s (ask_in rest) (longest_of s.leases.gate.rows))
    by false false false true is-one is-two is-ask is-end =
        subst (λ (t : ℕ). Changes s.leases.gate (leader_ended s (ended_of rest)).leases.gate
        (leader_gives s (t ∷ rest)))
        (sym (eqb-true tag 21 is-end)) (ends s (ended_of rest))
    by false false false false is-one is-two is-ask is-end =
        subst (λ (b : Bool). Changes s.leases.gate (leader_told s (note_in tag rest)).leases.gate
        (gives_if s b tag rest))
        (sym is-ask) (leader-notes s (note_in tag rest))

leader-of-notes : (s : GatedLeader) (records : List (List ℕ))
    → AreOfNotes s.leases.gate (leader_leases s records)
leader-of-notes s [] = ([], refl)
leader-of-notes s (bytes ∷ records) =
    let now = leader_after s bytes in
    before s.leases.gate now.leases.gate (leader_gives s bytes) (leader_leases now records)
    (leader-changes s bytes)
    (leader-of-notes now records)

pub leaders-lease-once : LeadersLeaseOnce
leaders-lease-once s records =
    let all = leader-of-notes s records in
    subst Rise (sym all.1) (leases-rise s.leases.gate all.0)
