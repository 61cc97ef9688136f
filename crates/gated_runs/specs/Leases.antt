-- The leases that the records of a log give.
use Rattle.std.specs.Prelude.{◌==◌, ℕ, List, [], ◌∷◌, Option, Some, None, if◌then◌else◌}
use Rattle.lane_gate.specs.declared.note.Note.{Note}
use Rattle.lane_gate.specs.declared.note.Note.TheVariants.{Key, Statement, Lease}
use Rattle.lane_gate.specs.Gates.{GateState, if_taken, lease_answer}
use Rattle.lane_gate.specs.Runs.{Granted, Rise}
use Rattle.lane_leases.specs.declared.ask.Announced.{Announced}
use Rattle.gated_servers.specs.declared.helper.GatedHelper.{GatedHelper}
use Rattle.gated_servers.specs.declared.leader.GatedLeader.{GatedLeader}
use Rattle.gated_servers.specs.Helpers.{helper_after}
use Rattle.gated_servers.specs.Leaders.{leader_after}
use Rattle.gated_servers.specs.Records.{ask_in, note_in}
use Rattle.many_servers.specs.Leaders.{lease_given}

-- the lease of this lane and serial before the others
abbrev pub lease_before : (lane serial : ℕ) → List Granted → List Granted
lease_before lane serial later = record { lane = lane; serial = serial } ∷ later

-- the lease that a gate takes by a note, if it is one's, before the others
abbrev pub noted_before : GateState → Option Note → List Granted → List Granted
noted_before gate None later = later
noted_before gate (Some (Key lane hash)) later = later
noted_before gate (Some (Statement lane serial hash)) later = later
noted_before gate (Some (Lease lane serial hash)) later =
    if_taken (lease_answer gate lane serial) (lease_before lane serial later) later

-- the lease that is given to an ask, if one is
abbrev pub given_before : Option Announced → List Granted → List Granted
given_before None later = later
given_before (Some lease) later = lease_before lease.lane lease.serial later

-- the lease that a record gives at a helper: one that the leader announced
abbrev pub helper_gives : GatedHelper → List ℕ → List Granted → List Granted
helper_gives s [] later = later
helper_gives s (tag ∷ rest) later = noted_before s.gate (note_in tag rest) later

-- at a leader: one that an ask got
abbrev pub leader_gives : GatedLeader → List ℕ → List Granted → List Granted
leader_gives s [] later = later
leader_gives s (tag ∷ rest) later =
    if tag == 20 then given_before (lease_given s (ask_in rest)) later
    else noted_before s.leases.gate (note_in tag rest) later

-- all of them, in their order
abbrev pub helper_leases : GatedHelper → List (List ℕ) → List Granted
helper_leases s [] = []
helper_leases s (bytes ∷ records) = helper_gives s bytes (helper_leases (helper_after s bytes) records)

abbrev pub leader_leases : GatedLeader → List (List ℕ) → List Granted
leader_leases s [] = []
leader_leases s (bytes ∷ records) = leader_gives s bytes (leader_leases (leader_after s bytes) records)

-- whatever the records, the leases of each lane rise: no two have one lane and serial
abbrev pub HelpersLeaseOnce : Type 0
HelpersLeaseOnce = (s : GatedHelper) (records : List (List ℕ)) → Rise (helper_leases s records)

abbrev pub LeadersLeaseOnce : Type 0
LeadersLeaseOnce = (s : GatedLeader) (records : List (List ℕ)) → Rise (leader_leases s records)
