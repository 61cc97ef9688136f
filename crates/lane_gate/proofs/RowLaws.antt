-- What a note does to the rows.
use Rattle.std.proofs.Common.{◌≡◌, ℕ, zero, suc, ◌⊎◌, inl, inr, List, [], ◌∷◌, replicate, set, refl, sym, ◌∙◌, ap}
use Rattle.lane_gate.specs.declared.row.GateRow.{GateRow}
use Rattle.lane_gate.specs.declared.holder.Holder.{Holder}
use Rattle.lane_gate.specs.declared.holder.Holder.TheVariants.{Keyless, Owner, Free, Leased}
use Rattle.lane_gate.specs.declared.ticket.TicketHash.{TicketHash}
use Rattle.lane_gate.specs.Holders.{FitsTicket}
use Rattle.lane_gate.specs.Gates.{row_at, keyless, free, opened_gate}

-- a row that was set is there at its own lane alone
pub set-either : (rows : List GateRow) (lane other : ℕ) (row : GateRow) →
    ((other ≡ lane) × (row_at (set rows lane row) other ≡ row)) ⊎ (row_at (set rows lane row) other ≡ row_at rows other)
set-either [] lane other row = inr refl
set-either (first ∷ rows) zero zero row = inl (refl, refl)
set-either (first ∷ rows) zero (suc other) row = inr refl
set-either (first ∷ rows) (suc lane) zero row = inr refl
set-either (first ∷ rows) (suc lane) (suc other) row =
    elim (set-either rows lane other row) [ inl w ↦ inl (ap suc w.0, w.1) | inr same ↦ inr same ]

-- where there is such a lane its row is the one that was set
pub set-there : (rows : List GateRow) (lane : ℕ) (row : GateRow) →
    (row_at (set rows lane row) lane ≡ row) ⊎ (row_at rows lane ≡ keyless)
set-there [] lane row = inr refl
set-there (first ∷ rows) zero row = inl refl
set-there (first ∷ rows) (suc lane) row = set-there rows lane row

strangers-fit : (strangers lane serial : ℕ) (hash : TicketHash) →
    FitsTicket (row_at (replicate strangers free) lane).holder serial hash → ⊥
strangers-fit zero lane serial hash fits = fits
strangers-fit (suc strangers) zero serial hash fits = fits
strangers-fit (suc strangers) (suc lane) serial hash fits = strangers-fit strangers lane serial hash fits

-- no ticket fits where nothing was noted
pub opened-fit : (owners strangers lane serial : ℕ) (hash : TicketHash) →
    FitsTicket (row_at (opened_gate owners strangers).rows lane).holder serial hash → ⊥
opened-fit zero strangers lane serial hash fits = strangers-fit strangers lane serial hash fits
opened-fit (suc owners) strangers zero serial hash fits = fits
opened-fit (suc owners) strangers (suc lane) serial hash fits = opened-fit owners strangers lane serial hash fits

pub one-ticket : (holder : Holder) (serial other : ℕ) (a b : TicketHash) →
    FitsTicket holder serial a → FitsTicket holder other b → a ≡ b
one-ticket Keyless serial other a b fits also = absurd fits
one-ticket (Owner key) serial other a b fits also = fits ∙ sym also
one-ticket Free serial other a b fits also = absurd fits
one-ticket (Leased lease) serial other a b fits also = fits.0 ∙ sym also.0
