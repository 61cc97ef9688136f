-- Whose a lane is.
use Rattle.std.specs.Prelude.{◌≡◌, ◌==◌, ℕ, Bool, true, false, Option, Some, None}
use Rattle.lane_gate.specs.declared.ticket.TicketHash.{TicketHash}
use Rattle.lane_gate.specs.declared.holder.Holder.{Holder}
use Rattle.lane_gate.specs.declared.holder.Holder.TheVariants.{Keyless, Owner, Free, Leased}

-- a frame of this serial may come with the ticket of this hash
abbrev pub FitsTicket : Holder → ℕ → TicketHash → Type 0
FitsTicket Keyless serial hash = ⊥
FitsTicket (Owner key) serial hash = hash ≡ key
FitsTicket Free serial hash = ⊥
FitsTicket (Leased lease) serial hash = (hash ≡ lease.hash) × (serial ≡ lease.serial)

-- the serial of a strangers' lane that was leased last, 0 where none was
abbrev pub last_serial : Holder → Option ℕ
last_serial Keyless = None
last_serial (Owner key) = None
last_serial Free = Some 0
last_serial (Leased lease) = Some lease.serial

abbrev pub is_owners : Holder → Bool
is_owners Keyless = true
is_owners (Owner key) = true
is_owners Free = false
is_owners (Leased lease) = false

-- somebody may send frames of this serial
abbrev pub has_request : Holder → ℕ → Bool
has_request Keyless serial = false
has_request (Owner key) serial = true
has_request Free serial = false
has_request (Leased lease) serial = serial == lease.serial
