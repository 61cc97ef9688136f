-- The leases of a lane rise.
use Rattle.std.proofs.Common.{◌≡◌, ℕ, ◌+◌, ◌<◌, ◌≤◌, inl, inr, List, [], ◌∷◌, Bool, true, false, nat_lt, if◌then◌else◌, ◌&&◌, length, Option, Some, None, Ok, Err, refl, sym, ◌∙◌, ap, subst, arith}
use Rattle.std.proofs.lemmas.Bool.{ltb-true}
use Rattle.lane_gate.specs.declared.fault.GateFault.TheVariants as fault
use Rattle.lane_gate.specs.declared.ticket.TicketHash.{TicketHash}
use Rattle.lane_gate.specs.declared.statement.StatementHash.{StatementHash}
use Rattle.lane_gate.specs.declared.holder.Holder.{Holder}
use Rattle.lane_gate.specs.declared.holder.Holder.TheVariants.{Keyless, Owner, Free, Leased}
use Rattle.lane_gate.specs.declared.row.GateRow.{GateRow}
use Rattle.lane_gate.specs.declared.note.Note.{Note}
use Rattle.lane_gate.specs.declared.note.Note.TheVariants.{Key, Statement, Lease}
use Rattle.lane_gate.specs.Holders.{last_serial, is_owners}
use Rattle.lane_gate.specs.Gates.{GateState, Answer, row_at, keyless, above_answer, key_answer, lease_answer}
use Rattle.lane_gate.specs.Gates.{with_key, with_lease, with_statement, note_answer, with_note, after_note, if_taken}
use Rattle.lane_gate.specs.Runs.{granted, AreAbove, Rise, LeasesRise}
use Rattle.lane_gate.proofs.RowLaws.{set-either, set-there}

-- the serial of the lane's last lease
abbrev pub last_at : GateState → ℕ → Option ℕ
last_at gate lane = last_serial (row_at gate.rows lane).holder

-- it is this one or a later one
abbrev IsFrom : ℕ → Option ℕ → Type 0
IsFrom last now = (serial : ℕ) × (now ≡ Some serial) × (last ≤ serial)

from-same : (last : ℕ) (now : Option ℕ) → now ≡ Some last → IsFrom last now
from-same last now same = (last, same, omega arith)

owners-have-none : (holder : Holder) (last : ℕ) → is_owners holder ≡ true → last_serial holder ≡ Some last → ⊥
owners-have-none Keyless last owners has = cc
owners-have-none (Owner key) last owners has = cc
owners-have-none Free last owners has = cc
owners-have-none (Leased lease) last owners has = cc

abbrev if_owners : Bool → Answer
if_owners owners = if owners then Ok tt else Err fault.NotOwners

owners-taken : (there owners : Bool) → if_owners (there && owners) ≡ Ok tt → owners ≡ true
owners-taken true true taken = refl
owners-taken true false taken = cc
owners-taken false owners taken = cc

key-taken : (gate : GateState) (lane : ℕ) → key_answer gate lane ≡ Ok tt → is_owners (row_at gate.rows lane).holder ≡ true
key-taken gate lane taken = owners-taken (nat_lt lane (length gate.rows)) (is_owners (row_at gate.rows lane).holder) taken

above-taken : (last : Option ℕ) (serial leases : ℕ) → above_answer last serial leases ≡ Ok tt → (before : ℕ) × (last ≡ Some before) × (before < serial)
above-taken None serial leases taken = cc
above-taken (Some before) serial leases taken = (before, refl, below (nat_lt before serial) refl taken)
  where
    below : (b : Bool) → nat_lt before serial ≡ b → above_answer (Some before) serial leases ≡ Ok tt → before < serial
    below true is same = ltb-true before serial is
    below false is same = cc

-- a taken lease is of a strangers' lane, and above its last
pub lease-above : (gate : GateState) (lane serial last : ℕ) → lease_answer gate lane serial ≡ Ok tt → last_at gate lane ≡ Some last → last < serial
lease-above gate lane serial last taken is =
    let w = above-taken (last_at gate lane) serial gate.leases taken in
    let same : Some w.0 ≡ Some last = sym w.1 ∙ is in
    let numbers : w.0 ≡ last = cc in
    subst (λ (n : ℕ). n < serial) numbers w.2

keyless-has-none : (row : GateRow) (last : ℕ) → row ≡ keyless → last_serial row.holder ≡ Some last → ⊥
keyless-has-none row last same has =
    let none : last_serial keyless.holder ≡ Some last = subst (λ (r : GateRow). last_serial r.holder ≡ Some last) same has in cc

-- after it the lane stands at its serial
pub lease-last : (gate : GateState) (lane serial : ℕ) (hash : TicketHash) → lease_answer gate lane serial ≡ Ok tt →
    last_at (with_lease gate lane serial hash) lane ≡ Some serial
lease-last gate lane serial hash taken =
    let w = above-taken (last_at gate lane) serial gate.leases taken in
    elim (set-there gate.rows lane _) [
      | inl same ↦ ap (λ (r : GateRow). last_serial r.holder) same
      | inr none ↦ absurd (keyless-has-none (row_at gate.rows lane) w.0 none w.1)
    ]

-- ---- the last serial of a lane after a note

abbrev held : GateState → ℕ → Holder → GateRow
held gate lane holder = record { holder = holder; statement = (row_at gate.rows lane).statement }

abbrev leased : GateState → ℕ → ℕ → TicketHash → GateRow
leased gate lane serial hash = held gate lane (Leased (record { serial = serial; hash = hash; number = gate.leases + 1 }))

abbrev stated : GateState → ℕ → ℕ → StatementHash → GateRow
stated gate lane serial hash =
    record { holder = (row_at gate.rows lane).holder; statement = Some (record { serial = serial; hash = hash }) }

key-from : (gate : GateState) (at : ℕ) (hash : TicketHash) (lane last : ℕ) → key_answer gate at ≡ Ok tt → last_at gate lane ≡ Some last →
    IsFrom last (last_at (with_key gate at hash) lane)
key-from gate at hash lane last taken is = elim (set-either gate.rows at lane (held gate at (Owner hash))) [
  | inl w ↦ absurd (owners-have-none (row_at gate.rows at).holder last (key-taken gate at taken) (subst (λ (l : ℕ). last_at gate l ≡ Some last) w.0 is))
  | inr same ↦ from-same last _ (ap (λ (r : GateRow). last_serial r.holder) same ∙ is)
]

statement-from : (gate : GateState) (at of : ℕ) (hash : StatementHash) (lane last : ℕ) → last_at gate lane ≡ Some last →
    IsFrom last (last_at (with_statement gate at of hash) lane)
statement-from gate at of hash lane last is = elim (set-either gate.rows at lane (stated gate at of hash)) [
  | inl w ↦ from-same last _ (ap (λ (r : GateRow). last_serial r.holder) w.1 ∙ subst (λ (l : ℕ). last_at gate l ≡ Some last) w.0 is)
  | inr same ↦ from-same last _ (ap (λ (r : GateRow). last_serial r.holder) same ∙ is)
]

lease-from : (gate : GateState) (at of : ℕ) (hash : TicketHash) (lane last : ℕ) → lease_answer gate at of ≡ Ok tt → last_at gate lane ≡ Some last →
    IsFrom last (last_at (with_lease gate at of hash) lane)
lease-from gate at of hash lane last taken is = elim (set-either gate.rows at lane (leased gate at of hash)) [
  | inl w ↦ (
    of,
    ap (λ (r : GateRow). last_serial r.holder) w.1,
    let below = lease-above gate at of last taken (subst (λ (l : ℕ). last_at gate l ≡ Some last) w.0 is) in omega arith,
  )
  | inr same ↦ from-same last _ (ap (λ (r : GateRow). last_serial r.holder) same ∙ is)
]

with-from : (gate : GateState) (note : Note) (lane last : ℕ) → note_answer gate note ≡ Ok tt → last_at gate lane ≡ Some last →
    IsFrom last (last_at (with_note gate note) lane)
with-from gate (Key at hash) lane last taken is = key-from gate at hash lane last taken is
with-from gate (Statement at of hash) lane last taken is = statement-from gate at of hash lane last is
with-from gate (Lease at of hash) lane last taken is = lease-from gate at of hash lane last taken is

after-from : (gate : GateState) (note : Note) (lane last : ℕ) → last_at gate lane ≡ Some last → IsFrom last (last_at (after_note gate note) lane)
after-from gate note lane last is = chosen (note_answer gate note) refl
  where
    chosen : (answer : Answer) → note_answer gate note ≡ answer → IsFrom last (last_at (if_taken answer (with_note gate note) gate) lane)
    chosen (Ok tt) taken = with-from gate note lane last taken is
    chosen (Err fault) taken = from-same last _ is

-- ---- all leases

pub are-above : (gate : GateState) (notes : List Note) (lane serial last : ℕ) → last_at gate lane ≡ Some last → serial ≤ last →
    AreAbove lane serial (granted gate notes)
are-above gate [] lane serial last is least = tt
are-above gate (Key at hash ∷ notes) lane serial last is least =
    let w = after-from gate (Key at hash) lane last is in
    are-above (after_note gate (Key at hash)) notes lane serial w.0 w.1 (omega arith)
are-above gate (Statement at of hash ∷ notes) lane serial last is least =
    let w = after-from gate (Statement at of hash) lane last is in
    are-above (after_note gate (Statement at of hash)) notes lane serial w.0 w.1 (omega arith)
are-above gate (Lease at of hash ∷ notes) lane serial last is least =
    let w = after-from gate (Lease at of hash) lane last is in
    chosen (are-above (after_note gate (Lease at of hash)) notes lane serial w.0 w.1 (omega arith)) (lease_answer gate at of) refl
  where
    chosen : AreAbove lane serial (granted (after_note gate (Lease at of hash)) notes) → (answer : Answer) → lease_answer gate at of ≡ answer →
        AreAbove lane serial (if_taken answer (record { lane = at; serial = of } ∷ granted (after_note gate (Lease at of hash)) notes) (granted (after_note gate (Lease at of hash)) notes))
    chosen behind (Ok tt) taken = (λ same. (let above = lease-above gate at of last taken (subst (λ (l : ℕ). last_at gate l ≡ Some last) (sym same) is) in omega arith), behind)
    chosen behind (Err fault) taken = behind

pub leases-rise : LeasesRise
leases-rise gate [] = tt
leases-rise gate (Key at hash ∷ notes) = leases-rise (after_note gate (Key at hash)) notes
leases-rise gate (Statement at of hash ∷ notes) = leases-rise (after_note gate (Statement at of hash)) notes
leases-rise gate (Lease at of hash ∷ notes) = chosen (λ later. leases-rise later notes) (lease_answer gate at of) refl
  where
    chosen : ((later : GateState) → Rise (granted later notes)) → (answer : Answer) → lease_answer gate at of ≡ answer →
        Rise (if_taken answer (record { lane = at; serial = of } ∷ granted (if_taken answer (with_lease gate at of hash) gate) notes) (granted (if_taken answer (with_lease gate at of hash) gate) notes))
    chosen rise (Ok tt) taken =
        (are-above (with_lease gate at of hash) notes at of of (lease-last gate at of hash taken) (omega arith), rise (with_lease gate at of hash))
    chosen rise (Err fault) taken = rise gate
