-- A leader's log: what it takes, and what its gate let through.
use Rattle.std.proofs.Common.{◌≡◌, ◌==◌, ℕ, Bool, true, false, List, [], ◌∷◌, length, Option, Some, None}
use Rattle.std.proofs.Common.{refl, sym, ◌∙◌, ap, subst, if◌then◌else◌, arith}
use Rattle.frame_rules.specs.Whole.{whole}
use Rattle.many_words.specs.declared.door.Door.{Door}
use Rattle.many_words.specs.declared.door.Door.TheVariants as door
use Rattle.many_words.specs.Events.{Entry}
use Rattle.lane_gate.specs.Gates.{GateState}
use Rattle.lane_gate.specs.Tickets.{ticket_hash}
use Rattle.lane_leases.specs.declared.ask.Ask.{Ask}
use Rattle.lane_leases.specs.Records.{ask_bytes}
use Rattle.http_door.specs.Hearing.{PlainAsked, Request, Preflight, Refused}
use Rattle.http_door.specs.Requests.{Frame, Proof, Lease}
use Rattle.door_asks.specs.Asks.{asked_in}
use Rattle.gated_servers.specs.declared.leader.GatedLeader.{GatedLeader}
use Rattle.gated_servers.specs.Frames.{is_frame}
use Rattle.gated_servers.specs.Leaders.{leader_after, leader_asked}
use Rattle.gated_servers.specs.Records.{ask_in}
use Rattle.gated_servers.specs.Runs.{LeadersTakeAPart, leader_behind}
use Rattle.many_servers.specs.declared.leader.LeaderServer.{LeaderServer}
use Rattle.many_servers.specs.Doors.{client_record, record_if}
use Rattle.many_servers.specs.Laws.{TestsAreTheGates}
use Rattle.many_servers.specs.Leaders as leader
use Rattle.many_servers.specs.Leaders.{ask_behind, leader_answers, whole_ask}
use Rattle.many_servers.specs.Packets.{carried}
use Rattle.many_servers.specs.Passing.{takes_bytes}
use Rattle.gated_runs.specs.Logs.{LeadersLogsCarry, LeadersTakeTheirLogs}
use Rattle.gated_runs.specs.Tickets.{Carries, CarriesTicket}
use Rattle.gated_runs.proofs.Asking.{if-some, noted, same-tag}
use Rattle.gated_runs.proofs.Following.{IsStep, followed, run-carries}

abbrev server : GatedLeader → LeaderServer
server s = record { gated = s }

-- ---- what a record is that the log takes, at whichever gate

abbrev IsStepped : List ℕ → Type 0
IsStepped noted = (s : GatedLeader) → leader.leader_behind s noted ≡ leader_after s noted

client-steps : (b : Bool) (frame noted : List ℕ) → record_if b (client_record frame) ≡ Some noted
    → IsStepped noted
client-steps b frame noted is = subst IsStepped (if-some b (client_record frame) noted is).1 (λ s. refl)

asked-if : (s : GatedLeader) (b : Bool) (rest : List ℕ) → b ≡ true
    → ask_behind s (if b then Some (ask_in rest) else None) ≡ leader_asked s (ask_in rest)
asked-if s true rest is = refl
asked-if s false rest is = absurd (cc is)

lease-steps : (ask : Ask) (noted : List ℕ) → leader.ask_noted ask ≡ Some noted → IsStepped noted
lease-steps ask noted is =
    let parts = if-some (length (ask_bytes ask) == 64) (20 ∷ ask_bytes ask) noted is in
    subst IsStepped parts.1 (λ s. asked-if s (length (ask_bytes ask) == 64) (ask_bytes ask) parts.0)

asked-steps : (gate : GateState) (asked : Option PlainAsked) (noted : List ℕ)
    → leader.asked_noted gate asked ≡ Some noted → IsStepped noted
asked-steps gate None noted is = absurd (cc is)
asked-steps gate (Some Preflight) noted is = absurd (cc is)
asked-steps gate (Some (Refused why)) noted is = absurd (cc is)
asked-steps gate (Some (Request (Frame ticket frame))) noted is =
    client-steps (takes_bytes gate ticket None frame) frame noted is
asked-steps gate (Some (Request (Proof ticket statement frame))) noted is =
    client-steps (takes_bytes gate ticket (Some statement) frame) frame noted is
asked-steps gate (Some (Request (Lease ticket other))) noted is =
    lease-steps (record { own = ticket_hash ticket; helper = other }) noted is

reply : (one two : Bool) (now other : GatedLeader) → two ≡ true
    → (if one then now else (if two then now else other)) ≡ now
reply true two now other is = refl
reply false true now other is = refl
reply false false now other is = absurd (cc is)

reply-steps : (bytes noted : List ℕ) → leader.reply_noted bytes ≡ Some noted → IsStepped noted
reply-steps [] noted is = absurd (cc is)
reply-steps (tag ∷ rest) noted is = by (tag == 2) refl is
  where
    by : (b : Bool) → (tag == 2) ≡ b
        → (if b then record_if (is_frame (whole rest)) (tag ∷ rest) else None) ≡ Some noted → IsStepped noted
    by true two taken =
        subst IsStepped (if-some (is_frame (whole rest)) (tag ∷ rest) noted taken).1
        (λ s. reply (tag == 1) (tag == 2) (leader_after s (tag ∷ rest))
        (if tag == 20 then ask_behind s (whole_ask rest) else s) two)
    by false two taken = absurd (cc taken)

stepped : (gate : GateState) (d : Door) (bytes noted : List ℕ) → leader.noted_at gate d bytes ≡ Some noted
    → IsStepped noted
stepped gate door.Clients bytes noted is = asked-steps gate (asked_in bytes) noted is
stepped gate door.Dialled bytes noted is = reply-steps (carried bytes) noted is
stepped gate door.Link bytes noted is = absurd (cc is)
stepped gate door.Status bytes noted is = absurd (cc is)

known : (s : GatedLeader) (d : Door) (bytes noted : List ℕ)
    → leader_answers.noted (server s) d bytes ≡ Some noted
    → IsStep leader_answers server leader_after noted
known s d bytes noted is = λ g. ap server (stepped s.leases.gate d bytes noted is g)

-- ---- the record of a client's frame

apart : (a b : ℕ) → a ≡ 20 → b ≡ 1 → a ≡ b → ⊥
apart a b is-a is-b same = omega arith

no-ask : (ask : Ask) (frame : List ℕ) → leader.ask_noted ask ≡ Some (client_record frame) → ⊥
no-ask ask frame is =
    let parts = if-some (length (ask_bytes ask) == 64) (20 ∷ ask_bytes ask) (client_record frame) is in
    apart 20 1 refl refl (same-tag 20 1 (ask_bytes ask) frame parts.1)

asked-carries : TestsAreTheGates → (gate : GateState) (bytes frame : List ℕ) (asked : Option PlainAsked)
    → asked_in bytes ≡ asked
    → leader.asked_noted gate asked ≡ Some (client_record frame) → Carries gate frame door.Clients bytes
asked-carries tests gate bytes frame None asked is = absurd (cc is)
asked-carries tests gate bytes frame (Some Preflight) asked is = absurd (cc is)
asked-carries tests gate bytes frame (Some (Refused why)) asked is = absurd (cc is)
asked-carries tests gate bytes frame (Some (Request (Frame ticket other))) asked is =
    noted tests gate bytes (Frame ticket other) frame asked is
asked-carries tests gate bytes frame (Some (Request (Proof ticket statement other))) asked is =
    noted tests gate bytes (Proof ticket statement other) frame asked is
asked-carries tests gate bytes frame (Some (Request (Lease ticket other))) asked is =
    absurd (no-ask (record { own = ticket_hash ticket; helper = other }) frame is)

no-reply : (bytes frame : List ℕ) → leader.reply_noted bytes ≡ Some (client_record frame) → ⊥
no-reply [] frame is = cc is
no-reply (tag ∷ rest) frame is = by (tag == 2) refl is
  where
    by : (b : Bool) → (tag == 2) ≡ b
        → (if b then record_if (is_frame (whole rest)) (tag ∷ rest) else None) ≡ Some (client_record frame)
        → ⊥
    by true two taken =
        let one = same-tag tag 1 rest frame
        (if-some (is_frame (whole rest)) (tag ∷ rest) (client_record frame) taken).1 in
        let no : false ≡ true = subst (λ (t : ℕ). (t == 2) ≡ true) one two in
        cc no
    by false two taken = cc taken

carries : TestsAreTheGates → (gate : GateState) (d : Door) (bytes frame : List ℕ)
    → leader.noted_at gate d bytes ≡ Some (client_record frame)
    → Carries gate frame d bytes
carries tests gate door.Clients bytes frame is = asked-carries tests gate bytes frame (asked_in bytes) refl is
carries tests gate door.Dialled bytes frame is = absurd (no-reply (carried bytes) frame is)
carries tests gate door.Link bytes frame is = absurd (cc is)
carries tests gate door.Status bytes frame is = absurd (cc is)

carry : TestsAreTheGates → (s : GatedLeader) (e : Entry)
    → e.noted ≡ leader_answers.noted (server s) e.door e.frame
    → CarriesTicket s.leases.gate e
carry tests s e noted frame is = carries tests s.leases.gate e.door e.frame frame (sym noted ∙ is)

-- ---- runs

pub leaders-take : LeadersTakeAPart → LeadersTakeTheirLogs
leaders-take took h t events nothing run =
    let old = h.hall.server.gated in
    let all = followed leader_answers server leader_after leader_behind (λ g. refl) (λ g r records. refl)
    known old h t events refl nothing run in
    record {
      taken = all.taken;
      logged = all.logged;
      behind = ap (λ (s : LeaderServer). s.gated) all.is;
      core = took old all.taken;
    }

pub leaders-carry : TestsAreTheGates → LeadersLogsCarry
leaders-carry tests h t events nothing run =
    run-carries leader_answers server leader_after leader_behind (λ g. refl) (λ g r records. refl) known
    (λ (s : GatedLeader). s.leases.gate) (carry tests) h.hall.server.gated h t events refl nothing run
