-- Which frames a gate hands on.
use Rattle.std.proofs.Common.{◌≡◌, ◌==◌, ℕ, ◌⊎◌, inl, inr, List, [], ◌∷◌, Bool, true, false, Option, Some, None, refl, sym, ◌∙◌, ap, subst}
use Rattle.std.specs.Bool.{Decides}
use Rattle.std.specs.Str.{bytes_eq}
use Rattle.std.proofs.lemmas.Bool.Decides.{Decides-eqb, not_from_Decides}
use Rattle.std.proofs.lemmas.Slice.Eq.{bytes_eq-Decides}
use Rattle.frame_rules.specs.Frames as frame
use Rattle.frame_rules.specs.Frames.{PlainFrame, PlainBody}
use Rattle.lane_gate.specs.declared.ticket.TicketHash.{TicketHash}
use Rattle.lane_gate.specs.declared.holder.Holder.{Holder}
use Rattle.lane_gate.specs.declared.holder.Holder.TheVariants.{Keyless, Owner, Free, Leased}
use Rattle.lane_gate.specs.declared.statement.StatementHash.{StatementHash}
use Rattle.lane_gate.specs.declared.statement.Statement.{Statement}
use Rattle.lane_gate.specs.declared.row.GateRow.{GateRow}
use Rattle.lane_gate.specs.Tickets.{ticket_hash}
use Rattle.lane_gate.specs.Holders.{FitsTicket}
use Rattle.lane_gate.specs.Passing.{PlainTicketed, NamesStatement, FitsKind, PassesRow, PassesLink}
use Rattle.lane_gate.specs.Gates.{row_at, after_note}
use Rattle.lane_gate.specs.Runs.{Comes, Commands, Notes, came, GoesBefore, HandsOn, IsPartOf, HandsOnAPart, HandsOnOneList}

-- ---- a fact or its contrary

abbrev pub Settled : Type 0 → Type 0
Settled P = P ⊎ (P → ⊥)

settled : {P : Type 0} (r : Bool) → Decides r P → Settled P
settled true d = inl (d.0 refl)
settled false d = inr (not_from_Decides false d refl)

both : {P Q : Type 0} → Settled P → Settled Q → Settled (P × Q)
both (inl p) (inl q) = inl (p, q)
both (inl p) (inr against) = inr (λ w. against w.1)
both (inr against) q = inr (λ w. against w.0)

numbers : (a b : ℕ) → Settled (a ≡ b)
numbers a b = settled (a == b) (Decides-eqb a b)

pub bytes : (a b : List ℕ) → Settled (a ≡ b)
bytes a b = settled (bytes_eq a b) (bytes_eq-Decides a b)

hash_of : List ℕ → TicketHash
hash_of digest = record { 0 = digest }

hashes : (a b : TicketHash) → Settled (a ≡ b)
unfolding hash_of
hashes a b = elim (bytes a.0 b.0) [
  | inl same ↦ inl (ap hash_of same)
  | inr other ↦ inr (λ (same : a ≡ b). other (ap (λ (h : TicketHash). h.0) same))
]

statement_of : List ℕ → StatementHash
statement_of digest = record { 0 = digest }

statements : (a b : StatementHash) → Settled (a ≡ b)
unfolding statement_of
statements a b = elim (bytes a.0 b.0) [
  | inl same ↦ inl (ap statement_of same)
  | inr other ↦ inr (λ (same : a ≡ b). other (ap (λ (h : StatementHash). h.0) same))
]

ticket-settled : (holder : Holder) (serial : ℕ) (hash : TicketHash) → Settled (FitsTicket holder serial hash)
ticket-settled Keyless serial hash = inr (λ against. against)
ticket-settled (Owner key) serial hash = hashes hash key
ticket-settled Free serial hash = inr (λ against. against)
ticket-settled (Leased lease) serial hash = both (hashes hash lease.hash) (numbers serial lease.serial)

statement-settled : (noted : Option Statement) (serial : ℕ) (named : Option StatementHash) → Settled (NamesStatement noted serial named)
statement-settled None serial named = inr (λ against. against)
statement-settled (Some noted) serial None = inr (λ against. against)
statement-settled (Some noted) serial (Some named) = both (statements noted.hash named) (numbers serial noted.serial)

kind-settled : (row : GateRow) (serial : ℕ) (named : Option StatementHash) (body : PlainBody) → Settled (FitsKind row serial named body)
kind-settled row serial named (frame.Proof share) = statement-settled row.statement serial named
kind-settled row serial named (frame.Deposit deposit) = inl tt
kind-settled row serial named (frame.Register address key) = inl tt
kind-settled row serial named (frame.Write root part) = inl tt
kind-settled row serial named (frame.Read box_number token) = inl tt
kind-settled row serial named (frame.Retire box_number token) = inl tt
kind-settled row serial named (frame.Held proof) = inr (λ against. against)
kind-settled row serial named (frame.Challenge ckey) = inr (λ against. against)
kind-settled row serial named (frame.Registered box_number) = inr (λ against. against)
kind-settled row serial named frame.Accepted = inr (λ against. against)
kind-settled row serial named (frame.Message zero one) = inr (λ against. against)
kind-settled row serial named (frame.Refused refusal) = inr (λ against. against)
kind-settled row serial named (frame.LinkRegister address) = inr (λ against. against)
kind-settled row serial named (frame.LinkBegin ckey part) = inr (λ against. against)
kind-settled row serial named (frame.LinkAudit sigma opened) = inr (λ against. against)
kind-settled row serial named (frame.LinkSettle closing) = inr (λ against. against)
kind-settled row serial named (frame.LinkRead box_number) = inr (λ against. against)
kind-settled row serial named (frame.LinkReply reply) = inr (λ against. against)
kind-settled row serial named (frame.LinkRetire box_number) = inr (λ against. against)
kind-settled row serial named (frame.LinkBegun count draw) = inr (λ against. against)

row-settled : (row : GateRow) (sent : PlainTicketed) → Settled (PassesRow row sent)
row-settled row sent =
    elim (both (ticket-settled row.holder sent.frame.serial (ticket_hash sent.ticket)) (kind-settled row sent.frame.serial sent.statement sent.frame.body)) [
      | inl w ↦ inl (record { ticket = w.0; body = w.1 })
      | inr against ↦ inr (λ (w : PassesRow row sent). against (w.ticket, w.body))
    ]

refused : {P : Type 0} → Settled P → Settled (P → ⊥)
refused (inl p) = inr (λ against. against p)
refused (inr against) = inl against

link-settled : (body : PlainBody) → Settled (PassesLink body)
link-settled (frame.LinkAudit sigma opened) = both (refused (numbers sigma 1)) (refused (numbers sigma 2))
link-settled (frame.LinkRegister address) = inl tt
link-settled (frame.LinkBegin ckey part) = inl tt
link-settled (frame.LinkSettle closing) = inl tt
link-settled (frame.LinkRead box_number) = inl tt
link-settled (frame.LinkRetire box_number) = inl tt
link-settled (frame.Deposit deposit) = inr (λ against. against)
link-settled (frame.Register address key) = inr (λ against. against)
link-settled (frame.Write root part) = inr (λ against. against)
link-settled (frame.Read box_number token) = inr (λ against. against)
link-settled (frame.Proof share) = inr (λ against. against)
link-settled (frame.Held proof) = inr (λ against. against)
link-settled (frame.Challenge ckey) = inr (λ against. against)
link-settled (frame.Registered box_number) = inr (λ against. against)
link-settled frame.Accepted = inr (λ against. against)
link-settled (frame.Message zero one) = inr (λ against. against)
link-settled (frame.Refused refusal) = inr (λ against. against)
link-settled (frame.LinkReply reply) = inr (λ against. against)
link-settled (frame.Retire box_number token) = inr (λ against. against)
link-settled (frame.LinkBegun count draw) = inr (λ against. against)

-- ---- whole runs

goes : {P : Type 0} (f : PlainFrame) (rest all whole : List PlainFrame) → GoesBefore P f rest all →
    IsPartOf rest whole → IsPartOf all (f ∷ whole)
goes f rest all whole (inl w) part = inl (rest, w.1, part)
goes f rest all whole (inr w) part = inr (subst (λ (l : List PlainFrame). IsPartOf l whole) (sym w.1) part)

pub hands-on-a-part : HandsOnAPart
hands-on-a-part gate [] all hands = hands
hands-on-a-part gate (Comes sent ∷ events) all hands =
    goes sent.frame hands.0 all (came events) hands.2 (hands-on-a-part gate events hands.0 hands.1)
hands-on-a-part gate (Commands f ∷ events) all hands =
    goes f hands.0 all (came events) hands.2 (hands-on-a-part gate events hands.0 hands.1)
hands-on-a-part gate (Notes note ∷ events) all hands = hands-on-a-part (after_note gate note) events all hands

-- the one list of a kind
abbrev IsOne : (List PlainFrame → Type 0) → Type 0
IsOne Is = (all : List PlainFrame) × Is all × ((other : List PlainFrame) → Is other → other ≡ all)

goes-one : {P : Type 0} (f : PlainFrame) (Is : List PlainFrame → Type 0) → Settled P → IsOne Is →
    IsOne (λ all. (rest : List PlainFrame) × Is rest × GoesBefore P f rest all)
goes-one {P} f Is (inl p) w = (
  f ∷ w.0,
  (w.0, w.1, inl (p, refl)),
  λ other hands. elim hands.2 [
    | inl h ↦ h.1 ∙ ap (λ rest. f ∷ rest) (w.2 hands.0 hands.1)
    | inr h ↦ absurd (h.0 p)
  ],
)
goes-one {P} f Is (inr against) w = (
  w.0,
  (w.0, w.1, inr (against, refl)),
  λ other hands. elim hands.2 [
    | inl h ↦ absurd (against h.0)
    | inr h ↦ h.1 ∙ w.2 hands.0 hands.1
  ],
)

pub hands-on-one-list : HandsOnOneList
hands-on-one-list gate [] = ([], refl, λ other hands. hands)
hands-on-one-list gate (Comes sent ∷ events) =
    goes-one sent.frame (HandsOn gate events) (row-settled (row_at gate.rows sent.frame.lane) sent) (hands-on-one-list gate events)
hands-on-one-list gate (Commands f ∷ events) =
    goes-one f (HandsOn gate events) (link-settled f.body) (hands-on-one-list gate events)
hands-on-one-list gate (Notes note ∷ events) = hands-on-one-list (after_note gate note) events
