-- The leases of a leader are notes that its gate takes.
use Rattle.std.proofs.Common.{◌≡◌, ℕ, ◌+◌, ◌-◌, ◌≤◌, List, [], ◌∷◌, ◌++◌, length, drop, Some, Result, Ok, Err, sym, ◌∙◌, ap, subst, arith, append_assoc, append-nil, length-append}
use Rattle.std.proofs.Math.Seq.{drop-nil}
use Rattle.std.proofs.lemmas.List.{drop-drop, drop-append-le, length-drop}
use Rattle.circular_buffer.specs.Buffer.{keep_last}
use Rattle.lane_gate.specs.declared.note.Note.{Note}
use Rattle.lane_gate.specs.declared.note.Note.TheVariants.{Key, Statement, Lease}
use Rattle.lane_gate.specs.Gates.{GateState, Answer, after_note, if_taken}
use Rattle.lane_gate.specs.Runs.{Granted, granted, Rise}
use Rattle.lane_gate.proofs.LeaseLaws.{leases-rise}
use Rattle.lane_leases.specs.declared.ask.Ask.{Ask}
use Rattle.lane_leases.specs.declared.ask.Announced.{Announced}
use Rattle.lane_leases.specs.declared.ended.Ended.{Ended}
use Rattle.lane_leases.specs.declared.fault.UsedUp.{UsedUp}
use Rattle.lane_leases.specs.declared.record.LeaderNote.{LeaderNote}
use Rattle.lane_leases.specs.declared.record.LeaderNote.TheVariants as leader
use Rattle.lane_leases.specs.Leases.{LeasesState, IsLeased, IsTold, IsOfRow}
use Rattle.lane_leases.specs.Runs.{OneRestedLongest, given_before, StepGives, GivesLeases, LeaderLeasesRise, after_ends, LastEndsAreKept}

pub one-rested-longest : OneRestedLongest
one-rested-longest rows a b ra rb =
    let up : ra.since ≤ rb.since = ra.longest b rb.since rb.rests in
    let down : rb.since ≤ ra.since = rb.longest a ra.since ra.rests in
    let same : ra.since ≡ rb.since = omega arith in
    let least : a ≤ b = ra.first b (rb.rests ∙ ap Some (sym same)) in
    let most : b ≤ a = rb.first a (ra.rests ∙ ap Some same) in
    omega arith

-- ---- leases

-- a gate's notes whose leases are these
abbrev AreGranted : GateState → List Granted → Type 0
AreGranted gate all = (notes : List Note) × (granted gate notes ≡ all)

abbrev gate_of : LeasesState → GateState
gate_of leases = leases.gate

row-granted : (gate : GateState) (note : Note) (all : List Granted) → IsOfRow note → AreGranted (after_note gate note) all → AreGranted gate all
row-granted gate (Key lane hash) all row w = (Key lane hash ∷ w.0, w.1)
row-granted gate (Statement lane serial hash) all row w = (Statement lane serial hash ∷ w.0, w.1)
row-granted gate (Lease lane serial hash) all row w = absurd row

lease-granted : (before now : LeasesState) (ask : Ask) (lease : Announced) (rest : List Granted) → IsLeased before ask lease now →
    AreGranted now.gate rest → AreGranted before.gate (record { lane = lease.lane; serial = lease.serial } ∷ rest)
lease-granted before now ask lease rest leased w =
    let note : Note = Lease lease.lane lease.serial ask.own in
    let same : now.gate ≡ after_note before.gate note = ap gate_of leased.leased in
    let later : granted (after_note before.gate note) w.0 ≡ rest = subst (λ (g : GateState). granted g w.0 ≡ rest) same w.1 in (
      note ∷ w.0,
      ap (λ (a : Answer). if_taken a (record { lane = lease.lane; serial = lease.serial } ∷ granted (after_note before.gate note) w.0) (granted (after_note before.gate note) w.0)) leased.taken
          ∙ ap (λ (l : List Granted). record { lane = lease.lane; serial = lease.serial } ∷ l) later,
    )

told-granted : (before now : LeasesState) (ask : Ask) (told : Result Announced UsedUp) (rest : List Granted) → IsTold before ask told now →
    AreGranted now.gate rest → AreGranted before.gate (given_before told rest)
told-granted before now ask (Ok lease) rest is w = lease-granted before now ask lease rest is w
told-granted before now ask (Err fault) rest is w = subst (λ (l : LeasesState). AreGranted l.gate rest) is.1 w

step-granted : (note : LeaderNote) (before now : LeasesState) (rest all : List Granted) → StepGives note before now rest all →
    AreGranted now.gate rest → AreGranted before.gate all
step-granted (leader.Row note) before now rest all step w =
    subst (AreGranted before.gate) (sym step.2)
    (row-granted before.gate note rest step.0 (subst (λ (g : GateState). AreGranted g rest) (ap gate_of step.1) w))
step-granted (leader.Asked ask) before now rest all step w =
    subst (AreGranted before.gate) (sym step.2) (told-granted before now ask step.0 rest step.1 w)
step-granted (leader.Ended ended) before now rest all step w =
    subst (AreGranted before.gate) (sym step.1) (subst (λ (g : GateState). AreGranted g rest) (ap gate_of step.0) w)

all-granted : (before now : LeasesState) (notes : List LeaderNote) (all : List Granted) → GivesLeases before notes all now → AreGranted before.gate all
all-granted before now [] all run = ([], sym run.0)
all-granted before now (note ∷ notes) all run =
    step-granted note before run.0 run.1 all run.2 (all-granted run.0 now notes run.1 run.3)

pub leader-leases-rise : LeaderLeasesRise
leader-leases-rise before now notes all run =
    let w = all-granted before now notes all run in
    subst Rise w.1 (leases-rise before.gate w.0)

-- ---- ends

last-last : (n : ℕ) (xs : List Ended) (x : Ended) → keep_last n (keep_last n xs ++ x ∷ []) ≡ keep_last n (xs ++ x ∷ [])
last-last n xs x =
    let k : ℕ = length xs - n in
    let whole : drop k xs ++ x ∷ [] ≡ drop k (xs ++ x ∷ []) = sym (drop-append-le k xs (x ∷ []) (omega arith)) in
    let same : k + (length (drop k (xs ++ x ∷ [])) - n) ≡ length (xs ++ x ∷ []) - n = simp (length-drop, length-append) (omega arith) in
    ap (keep_last n) whole ∙ drop-drop (length (drop k (xs ++ x ∷ [])) - n) k (xs ++ x ∷ []) ∙ ap (λ i. drop i (xs ++ x ∷ [])) same

abbrev kept : GateState → List Ended → LeasesState
kept gate ends = record { gate = gate; ends = ends }

ends-from : (gate : GateState) (before ends : List Ended) → after_ends (kept gate (keep_last 4096 before)) ends ≡ kept gate (keep_last 4096 (before ++ ends))
ends-from gate before [] = ap (λ (l : List Ended). kept gate (keep_last 4096 l)) (sym (append-nil before))
ends-from gate before (ended ∷ ends) =
    ap (λ (l : List Ended). after_ends (kept gate l) ends) (last-last 4096 before ended)
    ∙ ends-from gate (before ++ ended ∷ []) ends
    ∙ ap (λ (l : List Ended). kept gate (keep_last 4096 l)) (append_assoc before (ended ∷ []) ends)

pub last-ends-are-kept : LastEndsAreKept
last-ends-are-kept gate ends =
    let none : keep_last 4096 [] ≡ [] = drop-nil (0 - 4096) in
    ap (λ (l : List Ended). after_ends (kept gate l) ends) (sym none) ∙ ends-from gate [] ends
