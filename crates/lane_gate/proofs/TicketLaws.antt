-- A ticket that fits a lane was noted.
use Rattle.std.proofs.Common.{◌≡◌, ℕ, ◌⊎◌, inl, inr, List, [], ◌∷◌, Ok, Err, refl, sym, subst}
use Rattle.lane_gate.specs.declared.ticket.TicketHash.{TicketHash}
use Rattle.lane_gate.specs.declared.row.GateRow.{GateRow}
use Rattle.lane_gate.specs.declared.note.Note.{Note}
use Rattle.lane_gate.specs.declared.note.Note.TheVariants.{Key, Statement, Lease}
use Rattle.lane_gate.specs.Tickets.{ticket_hash}
use Rattle.lane_gate.specs.Holders.{FitsTicket}
use Rattle.lane_gate.specs.Passing.{PlainTicketed}
use Rattle.lane_gate.specs.Gates.{GateState, Answer, row_at, opened_gate, note_answer, with_note, after_note, if_taken}
use Rattle.lane_gate.specs.Runs.{Event, Comes, Commands, Notes, gate_after, WasTaken, Gave, PassesWithItsTicket, OneTicketPasses}
use Rattle.lane_gate.proofs.RowLaws.{set-either, opened-fit, one-ticket}

-- the note gave this lane and serial to the ticket of this hash
abbrev Gives : Note → ℕ → ℕ → TicketHash → Type 0
Gives (Key lane hash) at serial given = (at ≡ lane) × (given ≡ hash)
Gives (Statement lane serial hash) at of given = ⊥
Gives (Lease lane serial hash) at of given = (at ≡ lane) × (of ≡ serial) × (given ≡ hash)

-- a ticket that fits a row was given by a note of these
abbrev Known : (Note → Type 0) → List GateRow → Type 0
Known Among rows = (lane serial : ℕ) (hash : TicketHash) → FitsTicket (row_at rows lane).holder serial hash →
    (note : Note) × Among note × Gives note lane serial hash

-- or it is this note, of which that is so
abbrev Or : (Note → Type 0) → Type 0 → Note → Note → Type 0
Or Among Taken more note = Among note ⊎ ((note ≡ more) × Taken)

widened : (Among : Note → Type 0) (Taken : Type 0) (more : Note) (rows : List GateRow) → Known Among rows → Known (Or Among Taken more) rows
widened Among Taken more rows known lane serial hash fits = let w = known lane serial hash fits in (w.0, inl w.1, w.2)

-- a row was set whose tickets the note gives, or were known
set-known : (Among : Note → Type 0) (Taken : Type 0) (more : Note) (rows : List GateRow) (at : ℕ) (row : GateRow) → Known Among rows →
    ((serial : ℕ) (hash : TicketHash) → FitsTicket row.holder serial hash →
    (note : Note) × Or Among Taken more note × Gives note at serial hash) →
    (lane serial : ℕ) (hash : TicketHash) → (found : GateRow) → ((lane ≡ at) × (found ≡ row)) ⊎ (found ≡ row_at rows lane) →
    FitsTicket found.holder serial hash → (note : Note) × Or Among Taken more note × Gives note lane serial hash
set-known Among Taken more rows at row known new lane serial hash found (inl w) fits =
    let given = new serial hash (subst (λ (r : GateRow). FitsTicket r.holder serial hash) w.1 fits) in
    (given.0, given.1, subst (λ (l : ℕ). Gives given.0 l serial hash) (sym w.0) given.2)
set-known Among Taken more rows at row known new lane serial hash found (inr same) fits =
    widened Among Taken more rows known lane serial hash (subst (λ (r : GateRow). FitsTicket r.holder serial hash) same fits)

with-known : (Among : Note → Type 0) (Taken : Type 0) (gate : GateState) (note : Note) → Taken → Known Among gate.rows →
    Known (Or Among Taken note) (with_note gate note).rows
with-known Among Taken gate (Key at key) is_taken known lane serial hash fits =
    set-known Among Taken (Key at key) gate.rows at _ known (λ s h is. (Key at key, inr (refl, is_taken), (refl, is)))
    lane serial hash _ (set-either gate.rows at lane _) fits
with-known Among Taken gate (Statement at of stated) is_taken known lane serial hash fits =
    set-known Among Taken (Statement at of stated) gate.rows at _ known (λ s h is. widened Among Taken (Statement at of stated) gate.rows known at s h is)
    lane serial hash _ (set-either gate.rows at lane _) fits
with-known Among Taken gate (Lease at of key) is_taken known lane serial hash fits =
    set-known Among Taken (Lease at of key) gate.rows at _ known (λ s h is. (Lease at of key, inr (refl, is_taken), (refl, is.1, is.0)))
    lane serial hash _ (set-either gate.rows at lane _) fits

-- the gate took the note
abbrev Took : GateState → Note → Type 0
Took gate note = note_answer gate note ≡ Ok tt

answered : (Among : Note → Type 0) (gate : GateState) (note : Note) → Known Among gate.rows → (answer : Answer) → note_answer gate note ≡ answer →
    Known (Or Among (Took gate note) note) (if_taken answer (with_note gate note) gate).rows
answered Among gate note known (Ok tt) is = with-known Among (Took gate note) gate note is known
answered Among gate note known (Err fault) is = widened Among (Took gate note) note gate.rows known

abbrev Before : (Note → Type 0) → GateState → List Event → Note → Type 0
Before Among gate events note = Among note ⊎ WasTaken note gate events

known-after : (Among : Note → Type 0) (gate : GateState) (events : List Event) → Known Among gate.rows →
    Known (Before Among gate events) (gate_after gate events).rows
known-after Among gate [] known lane serial hash fits = let w = known lane serial hash fits in (w.0, inl w.1, w.2)
known-after Among gate (Comes sent ∷ events) known lane serial hash fits = known-after Among gate events known lane serial hash fits
known-after Among gate (Commands f ∷ events) known lane serial hash fits = known-after Among gate events known lane serial hash fits
known-after Among gate (Notes note ∷ events) known lane serial hash fits =
    let next = answered Among gate note known (note_answer gate note) refl in
    let w = known-after (Or Among (Took gate note) note) (after_note gate note) events next lane serial hash fits in
    (w.0, regrouped w.0 w.1, w.2)
  where
    regrouped : (found : Note) → Before (Or Among (Took gate note) note) (after_note gate note) events found → Before Among gate (Notes note ∷ events) found
    regrouped found (inl (inl among)) = inl among
    regrouped found (inl (inr here)) = inr (inl here)
    regrouped found (inr later) = inr (inr later)

gave : (note : Note) (sent : PlainTicketed) → Gives note sent.frame.lane sent.frame.serial (ticket_hash sent.ticket) → Gave note sent
gave (Key lane hash) sent gives = gives
gave (Statement lane serial hash) sent gives = gives
gave (Lease lane serial hash) sent gives = gives

pub passes-with-its-ticket : PassesWithItsTicket
passes-with-its-ticket owners strangers events sent passes =
    let opened : Known (λ note. ⊥) (opened_gate owners strangers).rows =
    λ lane serial hash fits. absurd (opened-fit owners strangers lane serial hash fits) in
    let w = known-after (λ note. ⊥) (opened_gate owners strangers) events opened sent.frame.lane sent.frame.serial (ticket_hash sent.ticket) passes.ticket in
    (w.0, elim w.1 [ inl none ↦ absurd none | inr noted ↦ noted ], gave w.0 sent w.2)

pub one-ticket-passes : OneTicketPasses
one-ticket-passes gate a b same pa pb =
    one-ticket (row_at gate.rows b.frame.lane).holder a.frame.serial b.frame.serial (ticket_hash a.ticket) (ticket_hash b.ticket)
    (subst (λ (lane : ℕ). FitsTicket (row_at gate.rows lane).holder a.frame.serial (ticket_hash a.ticket)) same pa.ticket) pb.ticket
