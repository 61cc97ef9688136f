-- Which frames of clients a server takes: those that pass its gate, and of a lease those of a letter alone.
use Rattle.std.specs.Prelude.{ℕ, ◌==◌, Bool, true, false, ◌&&◌, List, Option, Some, None, Result, Ok, Err, bytes_eq}
use Rattle.express_words.specs.declared.refusal.Refusal.{Refusal}
use Rattle.frame_rules.specs.Frames as frame
use Rattle.frame_rules.specs.Frames.{PlainFrame, PlainBody}
use Rattle.frame_rules.specs.Whole.{whole}
use Rattle.lane_gate.specs.declared.ticket.Ticket.{Ticket}
use Rattle.lane_gate.specs.declared.ticket.TicketHash.{TicketHash}
use Rattle.lane_gate.specs.declared.statement.StatementHash.{StatementHash}
use Rattle.lane_gate.specs.declared.statement.Statement.{Statement}
use Rattle.lane_gate.specs.declared.holder.Holder.{Holder}
use Rattle.lane_gate.specs.declared.holder.Holder.TheVariants.{Keyless, Owner, Free, Leased}
use Rattle.lane_gate.specs.declared.row.GateRow.{GateRow}
use Rattle.lane_gate.specs.Tickets.{ticket_hash}
use Rattle.lane_gate.specs.Gates.{GateState, row_at}
use Rattle.lane_gate.specs.Passing.{PlainTicketed}

-- ---- the gate's rule as a test

abbrev pub fits_ticket : Holder → ℕ → TicketHash → Bool
fits_ticket Keyless serial hash = false
fits_ticket (Owner key) serial hash = bytes_eq hash.0 key.0
fits_ticket Free serial hash = false
fits_ticket (Leased lease) serial hash = bytes_eq hash.0 lease.hash.0 && (serial == lease.serial)

abbrev pub names_statement : Option Statement → ℕ → Option StatementHash → Bool
names_statement None serial named = false
names_statement (Some noted) serial None = false
names_statement (Some noted) serial (Some named) = bytes_eq noted.hash.0 named.0 && (serial == noted.serial)

abbrev pub fits_kind : GateRow → ℕ → Option StatementHash → PlainBody → Bool
fits_kind row serial named (frame.Proof share) = names_statement row.statement serial named
fits_kind row serial named (frame.Deposit deposit) = true
fits_kind row serial named (frame.Register address key) = true
fits_kind row serial named (frame.Write root part) = true
fits_kind row serial named (frame.Read box_number token) = true
fits_kind row serial named (frame.Retire box_number token) = true
fits_kind row serial named body = false

abbrev pub passes_row : GateRow → PlainTicketed → Bool
passes_row row sent =
    fits_ticket row.holder sent.frame.serial (ticket_hash sent.ticket)
    && fits_kind row sent.frame.serial sent.statement sent.frame.body

abbrev pub passes : GateState → PlainTicketed → Bool
passes gate sent = passes_row (row_at gate.rows sent.frame.lane) sent

-- ---- what a lane's holder sends

-- a part of a letter's way to a box
abbrev pub is_of_letter : PlainBody → Bool
is_of_letter (frame.Deposit deposit) = true
is_of_letter (frame.Write root part) = true
is_of_letter (frame.Proof share) = true
is_of_letter body = false

-- an owner sends anything, who leases a lane a letter alone
abbrev pub may_send : Holder → PlainBody → Bool
may_send Keyless body = false
may_send (Owner key) body = true
may_send Free body = false
may_send (Leased lease) body = is_of_letter body

abbrev pub takes : GateState → PlainTicketed → Bool
takes gate sent = passes gate sent && may_send (row_at gate.rows sent.frame.lane).holder sent.frame.body

abbrev pub takes_if : GateState → Ticket → Option StatementHash → Result PlainFrame Refusal → Bool
takes_if gate ticket statement (Ok f) = takes gate (record { ticket = ticket; statement = statement; frame = f })
takes_if gate ticket statement (Err refusal) = false

-- the bytes are one frame that is taken with this ticket, and for a proof with this statement
abbrev pub takes_bytes : GateState → Ticket → Option StatementHash → List ℕ → Bool
takes_bytes gate ticket statement bytes = takes_if gate ticket statement (whole bytes)
