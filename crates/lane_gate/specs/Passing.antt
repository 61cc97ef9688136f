-- Which frames a gate hands on.
use Rattle.std.specs.Prelude.{◌≡◌, ◌≢◌, ℕ, Option, Some, None}
use Rattle.frame_rules.specs.Frames as frame
use Rattle.frame_rules.specs.Frames.{PlainFrame, PlainBody, plain}
use Rattle.lane_gate.specs.declared.ticket.Ticket.{Ticket}
use Rattle.lane_gate.specs.declared.statement.StatementHash.{StatementHash}
use Rattle.lane_gate.specs.declared.statement.Statement.{Statement}
use Rattle.lane_gate.specs.declared.row.GateRow.{GateRow}
use Rattle.lane_gate.specs.declared.passing.Ticketed.{Ticketed}
use Rattle.lane_gate.specs.Tickets.{ticket_hash}
use Rattle.lane_gate.specs.Holders.{FitsTicket}

-- a client's frame with its ticket, and the statement that it names
pub record PlainTicketed : Type 0 where
  pub ticket : Ticket
  pub statement : Option StatementHash
  pub frame : PlainFrame

abbrev pub plain_ticketed : Ticketed → PlainTicketed
plain_ticketed sent = record { ticket = sent.ticket; statement = sent.statement; frame = plain sent.frame }

-- the statement that is named for this serial is the one that was noted last
abbrev pub NamesStatement : Option Statement → ℕ → Option StatementHash → Type 0
NamesStatement None serial named = ⊥
NamesStatement (Some noted) serial None = ⊥
NamesStatement (Some noted) serial (Some named) = (noted.hash ≡ named) × (serial ≡ noted.serial)

-- a client sends it, and a proof names the row's own statement
abbrev pub FitsKind : GateRow → ℕ → Option StatementHash → PlainBody → Type 0
FitsKind row serial named (frame.Proof share) = NamesStatement row.statement serial named
FitsKind row serial named (frame.Deposit deposit) = Unit {0}
FitsKind row serial named (frame.Register address key) = Unit {0}
FitsKind row serial named (frame.Write root part) = Unit {0}
FitsKind row serial named (frame.Read box_number token) = Unit {0}
FitsKind row serial named (frame.Retire box_number token) = Unit {0}
FitsKind row serial named body = ⊥

abbrev pub FitsBody : GateRow → PlainTicketed → Type 0
FitsBody row sent = FitsKind row sent.frame.serial sent.statement sent.frame.body

-- a frame of the row's lane is handed on
pub record PassesRow (row : GateRow) (sent : PlainTicketed) : Type 0 where
  pub ticket : FitsTicket row.holder sent.frame.serial (ticket_hash sent.ticket)
  pub body : FitsBody row sent

-- a frame from the link is handed on: it is a command, and no audit at the point 1 or 2
abbrev pub PassesLink : PlainBody → Type 0
PassesLink (frame.LinkAudit sigma opened) = (sigma ≢ 1) × (sigma ≢ 2)
PassesLink (frame.LinkRegister address) = Unit {0}
PassesLink (frame.LinkBegin ckey part) = Unit {0}
PassesLink (frame.LinkSettle closing) = Unit {0}
PassesLink (frame.LinkRead box_number) = Unit {0}
PassesLink (frame.LinkRetire box_number) = Unit {0}
PassesLink body = ⊥
