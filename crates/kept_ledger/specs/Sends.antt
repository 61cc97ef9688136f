-- What goes out to the servers.
use Rattle.std.specs.Prelude.{ℕ, ◌==◌, if◌then◌else◌, length, Option, Some, None}
use Rattle.express_words.specs.declared.role.Role.{Role}
use Rattle.express_words.specs.declared.role.Role.TheVariants.{Leader, Helper}
use Rattle.desk_sheets.specs.declared.sheet.Pair.{Pair}
use Rattle.frame_rules.specs.Spelling.{spelling}
use Rattle.lane_gate.specs.declared.ticket.Ticket.{Ticket}
use Rattle.step_rules.specs.ClientAsks.{Sent}
use Rattle.kept_ledger.specs.declared.sending.Sending.{Sending}

abbrev pub role_of : ℕ → Role
role_of server = if server == 0 then Leader else Helper

-- the key of the owner's lane at a server is the ticket of each of its frames there
abbrev pub key_at : Pair → Role → Ticket
key_at p Leader = p.leader.key
key_at p Helper = p.helper.key

abbrev pub sending : Pair → Sent → Sending
sending p sent = record {
  to = role_of sent.server;
  ticket = key_at p (role_of sent.server);
  len = length (spelling sent.frame);
}

-- the frame of the client's present step, where it has one
abbrev pub sending_of : Pair → Option Sent → Option Sending
sending_of p None = None
sending_of p (Some sent) = Some (sending p sent)
