-- By what a server knows a ticket.
use Rattle.sha2.specs.Sha256.{sha256}
use Rattle.lane_gate.specs.declared.ticket.Ticket.{Ticket}
use Rattle.lane_gate.specs.declared.ticket.TicketHash.{TicketHash}

-- the SHA-256 digest of its bytes
abbrev pub ticket_hash : Ticket → TicketHash
ticket_hash ticket = record { 0 = sha256 ticket.0 }
