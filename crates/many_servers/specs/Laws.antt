-- What holds of both servers behind their doors.
use Rattle.std.specs.Prelude.{◌≡◌, ◌↔◌, ℕ, ◌+◌, ◌<◌, ◌≤◌, ◌^◌, true, List, ◌++◌, length, Some, Ok, if◌then◌else◌}
use Rattle.frame_rules.specs.Frames.{PlainFrame}
use Rattle.frame_rules.specs.Whole.{whole}
use Rattle.leader_core.specs.declared.standing.Standing.{Standing}
use Rattle.many_words.specs.declared.door.Door.{Door}
use Rattle.many_conns.specs.declared.said.Key.{Key}
use Rattle.lane_gate.specs.declared.holder.Lease.{Lease}
use Rattle.lane_gate.specs.declared.holder.Holder.TheVariants.{Leased}
use Rattle.lane_gate.specs.declared.ticket.Ticket.{Ticket}
use Rattle.lane_gate.specs.Gates.{GateState, Passes, row_at}
use Rattle.lane_gate.specs.Passing.{PlainTicketed}
use Rattle.lane_gate.specs.Tickets.{ticket_hash}
use Rattle.lane_leases.specs.declared.ask.Announced.{Announced}
use Rattle.lane_leases.specs.declared.ask.Ask.{Ask}
use Rattle.lane_leases.specs.declared.ended.End.{End}
use Rattle.lane_leases.specs.declared.ended.End.TheVariants as ends
use Rattle.http_door.specs.Replies as reply
use Rattle.gated_servers.specs.declared.helper.GatedHelper.{GatedHelper}
use Rattle.gated_servers.specs.declared.leader.GatedLeader.{GatedLeader}
use Rattle.gated_servers.specs.Helpers.{helper_after}
use Rattle.gated_servers.specs.Leaders.{Leases, is_written, leader_after, standing_of}
use Rattle.many_servers.specs.Ends.{refused_frame}
use Rattle.many_servers.specs.Helpers as helper
use Rattle.many_servers.specs.Leaders as leader
use Rattle.many_servers.specs.Packets.{carried, leased_in, leased_record, packet, packet_end, record_max}
use Rattle.many_servers.specs.Passing.{passes}

abbrev pub end_of : ℕ → Standing → End
end_of serial standing = if is_written serial standing then ends.Written else ends.NotWritten

-- Behind a record that its log takes, a server is what one that is opened again makes of that record.
abbrev pub HelpersOpenTheSame : Type 0
HelpersOpenTheSame =
    (s : GatedHelper) (door : Door) (bytes noted : List ℕ)
    → helper.noted_at s.gate door bytes ≡ Some noted → helper.helper_behind s noted ≡ helper_after s noted

abbrev pub LeadersOpenTheSame : Type 0
LeadersOpenTheSame =
    (s : GatedLeader) (door : Door) (bytes noted : List ℕ)
    → leader.noted_at s.leases.gate door bytes ≡ Some noted → leader.leader_behind s noted ≡ leader_after s noted

-- the test of a client's frame is the gate's rule
abbrev pub TestsAreTheGates : Type 0
TestsAreTheGates = (gate : GateState) (sent : PlainTicketed) → (passes gate sent ≡ true) ↔ Passes gate sent

-- Once its lane is leased to another, whoever comes back with a frame of the lease before hears how its request ended:
-- whether its letter was written, by how the lane stood then.
abbrev pub LateComersHear : Type 0
LateComersHear =
    (s t : GatedLeader) (ask : Ask) (lease : Announced) (last : Lease) (ticket : Ticket) (bytes : List ℕ) (f : PlainFrame)
    → Leases s ask lease t → (row_at s.leases.gate.rows lease.lane).holder ≡ Leased last
    → ticket_hash ticket ≡ last.hash → whole bytes ≡ Ok f → f.lane ≡ lease.lane → f.serial ≡ last.serial
    → refused_frame t.leases ticket bytes ≡ reply.Ended (end_of last.serial (standing_of s lease.lane))

-- a packet ends where it ends, whatever follows it, and carries what was put into it
pub record PacketComesBack (bytes rest : List ℕ) : Type 0 where
  pub end : packet_end (packet bytes ++ rest) ≡ Some (2 + length bytes)
  pub carried : carried (packet bytes) ≡ bytes

abbrev pub PacketsComeBack : Type 0
PacketsComeBack = (bytes rest : List ℕ) → length bytes ≤ record_max → PacketComesBack bytes rest

-- the helper's word that it has a lease names the lane and the serial
abbrev pub LeasesComeBack : Type 0
LeasesComeBack =
    (key : Key) → key.lane < 2 ^ 16 → key.serial < 2 ^ 32 → leased_in (leased_record key) ≡ Some key
