use Rattle.lane_gate.proofs.TicketLaws.{passes-with-its-ticket, one-ticket-passes}
use Rattle.lane_gate.proofs.laws.frames_carry_their_tickets.Goals as goal

pub returns-clause-gated : goal.returns-clause-gated
returns-clause-gated c = passes-with-its-ticket

pub returns-clause-one : goal.returns-clause-one
returns-clause-one c = one-ticket-passes
