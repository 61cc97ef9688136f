-- What who comes back hears once the lane is another's.
use Rattle.std.proofs.Common.{◌≡◌, ◌==◌, ℕ, ◌+◌, inl, inr, Bool, true, false, not, ◌&&◌, List, set, Some, None, Result, refl, sym, ◌∙◌, ap, subst, arith, if◌then◌else◌}
use Rattle.std.specs.Prelude.{bytes_eq}
use Rattle.std.proofs.lemmas.Bool.Decides.{Decides-eqb}
use Rattle.express_words.specs.declared.refusal.Refusal.{Refusal}
use Rattle.frame_rules.specs.Frames.{PlainFrame}
use Rattle.frame_rules.specs.Whole.{whole}
use Rattle.lane_gate.specs.declared.holder.Holder.{Holder}
use Rattle.lane_gate.specs.declared.holder.Holder.TheVariants.{Keyless, Leased}
use Rattle.lane_gate.specs.declared.holder.Lease.{Lease}
use Rattle.lane_gate.specs.declared.note.Note.TheVariants as note
use Rattle.lane_gate.specs.declared.row.GateRow.{GateRow}
use Rattle.lane_gate.specs.declared.ticket.TicketHash.{TicketHash}
use Rattle.lane_gate.specs.Gates.{Answer, GateState, row_at, next_lease, with_lease, after_note, if_taken}
use Rattle.lane_gate.specs.Holders.{last_serial}
use Rattle.lane_gate.specs.Tickets.{ticket_hash}
use Rattle.lane_gate.proofs.RowLaws.{set-there}
use Rattle.lane_leases.specs.declared.ended.End.{End}
use Rattle.lane_leases.specs.Ends.{last_end}
use Rattle.lane_leases.specs.Leases.{IsNext, LeasesState, with_end}
use Rattle.lane_leases.proofs.LastEndLaws.{last-kept}
use Rattle.gated_servers.specs.declared.leader.GatedLeader.{GatedLeader}
use Rattle.gated_servers.specs.Leaders.{ended_in, with_ended, standing_of}
use Rattle.many_servers.specs.Ends.{is_late, end_told}
use Rattle.many_servers.specs.Laws.{LateComersHear, end_of}
use Rattle.many_servers.specs.Passing.{fits_ticket}

no-keyless : (last : Lease) → Keyless ≡ Leased last → ⊥
no-keyless last is = cc

and-false : (a b : Bool) → b ≡ false → (a && b) ≡ false
and-false true b is = is
and-false false b is = refl

-- ---- the lane is the next lease's

held-by : (rows : List GateRow) (lane : ℕ) (row : GateRow) (last : Lease) → (row_at rows lane).holder ≡ Leased last
    → (row_at (set rows lane row) lane).holder ≡ row.holder
held-by rows lane row last was = elim (set-there rows lane row) [
  | inl there ↦ ap (λ (r : GateRow). r.holder) there
  | inr none ↦ absurd (no-keyless last (sym (ap (λ (r : GateRow). r.holder) none) ∙ was))
]

other-serial : (a b : ℕ) → b ≡ a + 1 → (a == b) ≡ false
other-serial a b is = by (a == b) refl
  where
    by : (t : Bool) → (a == b) ≡ t → t ≡ false
    by true same = let one : a ≡ b = (Decides-eqb a b).0 same in absurd (omega arith)
    by false same = refl

-- a frame of the serial before isn't the next lease's
unfit : (hash own : TicketHash) (serial of number last : ℕ) → serial ≡ last → of ≡ last + 1
    → fits_ticket (Leased (record { serial = of; hash = own; number = number })) serial hash ≡ false
unfit hash own serial of number last at next =
    and-false (bytes_eq hash.0 own.0) (serial == of) (other-serial serial of (next ∙ ap (λ (n : ℕ). n + 1) (sym at)))

pub late-comers-hear : LateComersHear
late-comers-hear s t ask lease last ticket bytes f leases was own read of at =
    let gate : GateState = s.leases.gate in
    let hash : TicketHash = ticket_hash ticket in
    let next : Lease = next_lease gate lease.serial ask.own in
    let end : End = end_of last.serial (standing_of s lease.lane) in
    let serial : lease.serial ≡ last.serial + 1 = subst (λ (h : Holder). IsNext (last_serial h) lease.serial) was leases.given.next in
    let taken : after_note gate (note.Lease lease.lane lease.serial ask.own) ≡ with_lease gate lease.lane lease.serial ask.own =
    ap (λ (a : Answer). if_taken a (with_lease gate lease.lane lease.serial ask.own) gate) leases.given.taken in
    let gates : leases.leased.gate ≡ with_lease gate lease.lane lease.serial ask.own = ap (λ (l : LeasesState). l.gate) leases.given.leased ∙ taken in
    let ended : t.leases ≡ with_end leases.leased (record { hash = last.hash; end = end }) =
    ap (λ (g : GatedLeader). g.leases) leases.is
    ∙ ap (λ (h : Holder). with_ended (ended_in h (standing_of s lease.lane)) leases.leased) was in
    let row : GateRow = record { holder = Leased next; statement = (row_at gate.rows lease.lane).statement } in
    let holder : (row_at t.leases.gate.rows lease.lane).holder ≡ Leased next =
    ap (λ (l : LeasesState). (row_at l.gate.rows lease.lane).holder) ended
    ∙ (ap (λ (g : GateState). (row_at g.rows lease.lane).holder) gates ∙ held-by gate.rows lease.lane row last was) in
    let late : is_late t.leases.gate hash (whole bytes) ≡ true =
    ap (λ (r : Result PlainFrame Refusal). is_late t.leases.gate hash r) read
    ∙ (ap (λ (lane : ℕ). not (fits_ticket (row_at t.leases.gate.rows lane).holder f.serial hash)) of
    ∙ (ap (λ (h : Holder). not (fits_ticket h f.serial hash)) holder
    ∙ ap not (unfit hash ask.own f.serial lease.serial next.number last.serial at serial))) in
    let told : last_end t.leases.ends hash ≡ Some end =
    ap (λ (l : LeasesState). last_end l.ends hash) ended
    ∙ (ap (λ (h : TicketHash). last_end (with_end leases.leased (record { hash = last.hash; end = end })).ends h) own
    ∙ last-kept leases.leased.ends last.hash end) in
    ap (λ (b : Bool). end_told (if b then last_end t.leases.ends hash else None)) late ∙ ap end_told told
