-- A helper's log: what it takes, and what its gate let through.
use Rattle.std.proofs.Common.{◌≡◌, ◌==◌, ℕ, Bool, true, false, List, [], ◌∷◌, Option, Some, None, refl, sym}
use Rattle.std.proofs.Common.{◌∙◌, ap, subst, if◌then◌else◌}
use Rattle.frame_rules.specs.Whole.{whole}
use Rattle.many_words.specs.declared.door.Door.{Door}
use Rattle.many_words.specs.declared.door.Door.TheVariants as door
use Rattle.many_words.specs.Events.{Entry}
use Rattle.lane_gate.specs.Gates.{GateState}
use Rattle.lane_leases.specs.declared.ask.Announced.{Announced}
use Rattle.http_door.specs.Hearing.{PlainAsked, Request, Preflight, Refused}
use Rattle.http_door.specs.Requests.{Frame, Proof, Lease}
use Rattle.door_asks.specs.Asks.{asked_in}
use Rattle.gated_servers.specs.declared.helper.GatedHelper.{GatedHelper}
use Rattle.gated_servers.specs.Frames.{passes_link}
use Rattle.gated_servers.specs.Helpers.{helper_after}
use Rattle.gated_servers.specs.Runs.{HelpersTakeAPart, helper_behind}
use Rattle.many_servers.specs.declared.helper.HelperServer.{HelperServer}
use Rattle.many_servers.specs.Announced.{announced_in, is_next}
use Rattle.many_servers.specs.Doors.{client_record, record_if}
use Rattle.many_servers.specs.Helpers as helper
use Rattle.many_servers.specs.Helpers.{helper_answers, if_lease}
use Rattle.many_servers.specs.Laws.{TestsAreTheGates}
use Rattle.many_servers.specs.Packets.{carried}
use Rattle.many_servers.specs.Passing.{takes_bytes}
use Rattle.gated_runs.specs.Logs.{HelpersLogsCarry, HelpersTakeTheirLogs}
use Rattle.gated_runs.specs.Tickets.{Carries, CarriesTicket}
use Rattle.gated_runs.proofs.Asking.{if-some, noted, same-tag}
use Rattle.gated_runs.proofs.Following.{IsStep, followed, run-carries}

abbrev server : GatedHelper → HelperServer
server s = record { gated = s }

-- ---- what a record is that the log takes, at whichever gate

abbrev IsStepped : List ℕ → Type 0
IsStepped noted = (s : GatedHelper) → helper.helper_behind s noted ≡ helper_after s noted

client-steps : (b : Bool) (frame noted : List ℕ) → record_if b (client_record frame) ≡ Some noted
    → IsStepped noted
client-steps b frame noted is = subst IsStepped (if-some b (client_record frame) noted is).1 (λ s. refl)

asked-steps : (gate : GateState) (asked : Option PlainAsked) (noted : List ℕ)
    → helper.asked_noted gate asked ≡ Some noted → IsStepped noted
asked-steps gate None noted is = absurd (cc is)
asked-steps gate (Some Preflight) noted is = absurd (cc is)
asked-steps gate (Some (Refused why)) noted is = absurd (cc is)
asked-steps gate (Some (Request (Frame ticket frame))) noted is =
    client-steps (takes_bytes gate ticket None frame) frame noted is
asked-steps gate (Some (Request (Proof ticket statement frame))) noted is =
    client-steps (takes_bytes gate ticket (Some statement) frame) frame noted is
asked-steps gate (Some (Request (Lease ticket other))) noted is = absurd (cc is)

command : (one two : Bool) (lease : Option Announced) (now s : GatedHelper) → two ≡ true
    → (if one then now else (if two then now else if_lease lease now s)) ≡ now
command true two lease now s is = refl
command false true lease now s is = refl
command false false lease now s is = absurd (cc is)

leased : (one two : Bool) (lease : Announced) (now s : GatedHelper)
    → (if one then now else (if two then now else if_lease (Some lease) now s)) ≡ now
leased true two lease now s = refl
leased false true lease now s = refl
leased false false lease now s = refl

lease-steps : (gate : GateState) (tag : ℕ) (rest noted : List ℕ) (lease : Option Announced)
    → announced_in (tag ∷ rest) ≡ lease
    → helper.lease_noted gate lease (tag ∷ rest) ≡ Some noted → IsStepped noted
lease-steps gate tag rest noted None is taken = absurd (cc taken)
lease-steps gate tag rest noted (Some lease) is taken =
    subst IsStepped (if-some (is_next gate lease) (tag ∷ rest) noted taken).1 same
  where
    same : IsStepped (tag ∷ rest)
    same s =
        let now = helper_after s (tag ∷ rest) in
        ap (λ (l : Option Announced). if tag == 1 then now else (if tag == 2 then now else if_lease l now s))
        is
        ∙ leased (tag == 1) (tag == 2) lease now s

command-steps : (gate : GateState) (bytes noted : List ℕ) → helper.command_noted gate bytes ≡ Some noted
    → IsStepped noted
command-steps gate [] noted is = absurd (cc is)
command-steps gate (tag ∷ rest) noted is = by (tag == 2) refl is
  where
    by : (b : Bool) → (tag == 2) ≡ b
        → (if b then record_if (passes_link (whole rest)) (tag ∷ rest) else helper.lease_noted gate
        (announced_in (tag ∷ rest)) (tag ∷ rest)) ≡ Some noted
        → IsStepped noted
    by true two taken =
        subst IsStepped (if-some (passes_link (whole rest)) (tag ∷ rest) noted taken).1
        (λ s. command (tag == 1) (tag == 2) (announced_in (tag ∷ rest)) (helper_after s (tag ∷ rest)) s two)
    by false two taken = lease-steps gate tag rest noted (announced_in (tag ∷ rest)) refl taken

stepped : (gate : GateState) (d : Door) (bytes noted : List ℕ) → helper.noted_at gate d bytes ≡ Some noted
    → IsStepped noted
stepped gate door.Clients bytes noted is = asked-steps gate (asked_in bytes) noted is
stepped gate door.Link bytes noted is = command-steps gate (carried bytes) noted is
stepped gate door.Status bytes noted is = absurd (cc is)
stepped gate door.Dialled bytes noted is = absurd (cc is)

known : (s : GatedHelper) (d : Door) (bytes noted : List ℕ)
    → helper_answers.noted (server s) d bytes ≡ Some noted
    → IsStep helper_answers server helper_after noted
known s d bytes noted is = λ g. ap server (stepped s.gate d bytes noted is g)

-- ---- the record of a client's frame

asked-carries : TestsAreTheGates → (gate : GateState) (bytes frame : List ℕ) (asked : Option PlainAsked)
    → asked_in bytes ≡ asked
    → helper.asked_noted gate asked ≡ Some (client_record frame) → Carries gate frame door.Clients bytes
asked-carries tests gate bytes frame None asked is = absurd (cc is)
asked-carries tests gate bytes frame (Some Preflight) asked is = absurd (cc is)
asked-carries tests gate bytes frame (Some (Refused why)) asked is = absurd (cc is)
asked-carries tests gate bytes frame (Some (Request r)) asked is = noted tests gate bytes r frame asked is

no-lease : (gate : GateState) (tag : ℕ) (rest frame : List ℕ) (lease : Option Announced)
    → announced_in (tag ∷ rest) ≡ lease
    → helper.lease_noted gate lease (tag ∷ rest) ≡ Some (client_record frame) → ⊥
no-lease gate tag rest frame None is taken = cc taken
no-lease gate tag rest frame (Some lease) is taken =
    let one = same-tag tag 1 rest frame
    (if-some (is_next gate lease) (tag ∷ rest) (client_record frame) taken).1 in
    let none : None ≡ Some lease = subst (λ (t : ℕ). announced_in (t ∷ rest) ≡ Some lease) one is in
    cc none

no-command : (gate : GateState) (bytes frame : List ℕ)
    → helper.command_noted gate bytes ≡ Some (client_record frame) → ⊥
no-command gate [] frame is = cc is
no-command gate (tag ∷ rest) frame is = by (tag == 2) refl is
  where
    by : (b : Bool) → (tag == 2) ≡ b
        → (if b then record_if (passes_link (whole rest)) (tag ∷ rest) else helper.lease_noted gate
        (announced_in (tag ∷ rest)) (tag ∷ rest))
        ≡ Some (client_record frame) → ⊥
    by true two taken =
        let one = same-tag tag 1 rest frame
        (if-some (passes_link (whole rest)) (tag ∷ rest) (client_record frame) taken).1 in
        let no : false ≡ true = subst (λ (t : ℕ). (t == 2) ≡ true) one two in
        cc no
    by false two taken = no-lease gate tag rest frame (announced_in (tag ∷ rest)) refl taken

carries : TestsAreTheGates → (gate : GateState) (d : Door) (bytes frame : List ℕ)
    → helper.noted_at gate d bytes ≡ Some (client_record frame)
    → Carries gate frame d bytes
carries tests gate door.Clients bytes frame is = asked-carries tests gate bytes frame (asked_in bytes) refl is
carries tests gate door.Link bytes frame is = absurd (no-command gate (carried bytes) frame is)
carries tests gate door.Status bytes frame is = absurd (cc is)
carries tests gate door.Dialled bytes frame is = absurd (cc is)

carry : TestsAreTheGates → (s : GatedHelper) (e : Entry)
    → e.noted ≡ helper_answers.noted (server s) e.door e.frame → CarriesTicket s.gate e
carry tests s e noted frame is = carries tests s.gate e.door e.frame frame (sym noted ∙ is)

-- ---- runs

pub helpers-take : HelpersTakeAPart → HelpersTakeTheirLogs
helpers-take took h t events nothing run =
    let old = h.hall.server.gated in
    let all = followed helper_answers server helper_after helper_behind (λ g. refl) (λ g r records. refl)
    known old h t events refl nothing run in
    record {
      taken = all.taken;
      logged = all.logged;
      behind = ap (λ (s : HelperServer). s.gated) all.is;
      core = took old all.taken;
    }

pub helpers-carry : TestsAreTheGates → HelpersLogsCarry
helpers-carry tests h t events nothing run =
    run-carries helper_answers server helper_after helper_behind (λ g. refl) (λ g r records. refl) known
    (λ (s : GatedHelper). s.gate) (carry tests) h.hall.server.gated h t events refl nothing run
