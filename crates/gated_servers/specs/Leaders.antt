-- A leader behind its gate: what each record makes of both.
use Rattle.std.specs.Prelude.{◌≡◌, ◌==◌, ◌+◌, ℕ, Bool, true, false, List, [], ◌∷◌, Option, Some, None, Result, Ok, Err, if◌then◌else◌}
use Rattle.frame_rules.specs.Whole.{whole}
use Rattle.step_rules.specs.Leader.{Leader, opened_leader, row_at as core_row}
use Rattle.step_rules.specs.LeaderClients.{on_client}
use Rattle.step_rules.specs.LeaderReplies.{on_reply_bytes}
use Rattle.leader_core.specs.Challenged.{challenged_in}
use Rattle.leader_core.specs.Standings.{standing_in}
use Rattle.leader_core.specs.declared.standing.Standing.{Standing}
use Rattle.leader_core.specs.declared.standing.Standing.TheVariants.{Busy, Written, Other}
use Rattle.lane_gate.specs.declared.holder.Holder.{Holder}
use Rattle.lane_gate.specs.declared.holder.Holder.TheVariants.{Keyless, Owner, Free, Leased}
use Rattle.lane_gate.specs.declared.note.Note.{Note}
use Rattle.lane_gate.specs.declared.note.Note.TheVariants.{Lease}
use Rattle.lane_gate.specs.Holders.{last_serial}
use Rattle.lane_gate.specs.Gates.{after_note, if_taken, lease_answer, row_at}
use Rattle.lane_leases.specs.declared.ask.Ask.{Ask}
use Rattle.lane_leases.specs.declared.ask.Announced.{Announced}
use Rattle.lane_leases.specs.declared.ended.Ended.{Ended}
use Rattle.lane_leases.specs.declared.ended.End.{End}
use Rattle.lane_leases.specs.declared.ended.End.TheVariants as ends
use Rattle.lane_leases.specs.Leases.{IsLeased, IsUsedUp, LeasesState, opened_leases, with_end, with_gate}
use Rattle.lane_leases.specs.Choosing.{longest_of}
use Rattle.lane_leases.specs.Resting.{HasRestedLongest}
use Rattle.gated_servers.specs.Frames.{is_frame, request_open, lane_in}
use Rattle.gated_servers.specs.Records.{ask_in, ended_of, note_in}
use Rattle.gated_servers.specs.Statements.{with_statement_of}
use Rattle.gated_servers.specs.declared.leader.GatedLeader.{GatedLeader}
use Rattle.gated_servers.specs.declared.leader.NoLease.{NoLease}
use Rattle.gated_servers.specs.declared.leader.NoLease.TheVariants as lack
use Rattle.gated_servers.specs.declared.opening.GatedOpening.{GatedOpening}

abbrev pub opened_leading : GatedOpening → GatedLeader
opened_leading o = record {
  opening = o;
  leader = opened_leader o.server.settings o.server.seed;
  leases = opened_leases o.gate.owners o.gate.strangers;
}

-- The leader took a frame of this lane. Where a write of the lane waits for its proof now, the gate has its statement.
abbrev pub leader_took : GatedLeader → ℕ → Leader → GatedLeader
leader_took s lane leader = record s {
  leader = leader;
  leases = with_gate s.leases (with_statement_of lane (challenged_in (core_row leader lane)) s.leases.gate);
}

-- A client's bytes: one frame of a lane and serial of which somebody may still send frames is handed on.
abbrev pub leader_heard : GatedLeader → List ℕ → GatedLeader
leader_heard s bytes = if request_open s.leases.gate (whole bytes)
    then leader_took s (lane_in (whole bytes)) (on_client s.leader bytes).leader else s

-- The helper's bytes: one frame is handed on.
abbrev pub leader_acked : GatedLeader → List ℕ → GatedLeader
leader_acked s bytes = if is_frame (whole bytes)
    then leader_took s (lane_in (whole bytes)) (on_reply_bytes s.leader bytes).leader else s

-- an owner's key
abbrev pub leader_noted : GatedLeader → Note → GatedLeader
leader_noted s note = record s { leases = with_gate s.leases (after_note s.leases.gate note) }

-- ---- leases

-- what became of the letter whose lease a lane has, once the lane is given to another
abbrev pub is_written : ℕ → Standing → Bool
is_written serial Busy = false
is_written serial (Written of) = serial == of
is_written serial Other = false

abbrev pub ended_in : Holder → Standing → Option Ended
ended_in Keyless standing = None
ended_in (Owner key) standing = None
ended_in Free standing = None
ended_in (Leased lease) standing = Some (record {
  hash = lease.hash;
  end = if is_written lease.serial standing then ends.Written else ends.NotWritten;
})

abbrev pub with_ended : Option Ended → LeasesState → LeasesState
with_ended None leases = leases
with_ended (Some ended) leases = with_end leases ended

abbrev pub standing_of : GatedLeader → ℕ → Standing
standing_of s lane = standing_in (core_row s.leader lane)

-- the serial behind the last one of a lane
abbrev pub serial_behind : Option ℕ → ℕ
serial_behind None = 1
serial_behind (Some last) = last + 1

-- a lane with the next serial leased, and the end of its lease before this one remembered
abbrev pub with_leased : GatedLeader → ℕ → Ask → GatedLeader
with_leased s lane ask =
    let holder = (row_at s.leases.gate.rows lane).holder in
    let serial = serial_behind (last_serial holder) in
    if_taken (lease_answer s.leases.gate lane serial)
    (record s {
      leases = with_ended (ended_in holder (standing_of s lane))
          (with_gate s.leases (after_note s.leases.gate (Lease lane serial ask.own)));
    })
    s

-- a lane of which nothing is under way is leased
abbrev pub leased_if : Standing → GatedLeader → GatedLeader → GatedLeader
leased_if Busy leased s = s
leased_if (Written serial) leased s = leased
leased_if Other leased s = leased

abbrev pub leased_at : Option ℕ → GatedLeader → Ask → GatedLeader
leased_at None s ask = s
leased_at (Some lane) s ask = leased_if (standing_of s lane) (with_leased s lane ask) s

-- the lane that has rested longest is leased, or none is
abbrev pub leader_asked : GatedLeader → Ask → GatedLeader
leader_asked s ask = leased_at (longest_of s.leases.gate.rows) s ask

-- ---- what is told of a lease

-- A lane was leased of which nothing is under way: the one that has rested longest, with its next serial.
pub record Leases (before : GatedLeader) (ask : Ask) (lease : Announced) (now : GatedLeader) : Type 0 where
  pub quiet : standing_of before lease.lane ≡ Busy → ⊥
  pub leased : LeasesState
  pub given : IsLeased before.leases ask lease leased
  pub is : now ≡ record before {
    leases =
        with_ended (ended_in (row_at before.leases.gate.rows lease.lane).holder (standing_of before lease.lane)) leased;
  }

-- the lane that has rested longest has a request under way
abbrev pub IsBusy : GatedLeader → Type 0
IsBusy s = (lane : ℕ) × HasRestedLongest s.leases.gate.rows lane × (standing_of s lane ≡ Busy)

-- what is told of an ask: a lease, or why there is none, which changes nothing
abbrev pub Lacks : GatedLeader → NoLease → Type 0
Lacks s lack.UsedUp = IsUsedUp s.leases.gate
Lacks s lack.Busy = IsBusy s

abbrev pub TellsLease : GatedLeader → Ask → Result Announced NoLease → GatedLeader → Type 0
TellsLease before ask (Ok lease) now = Leases before ask lease now
TellsLease before ask (Err lack) now = Lacks before lack × (now ≡ before)

-- ---- records

-- a key; a lease is no note of a leader's
abbrev pub leader_told : GatedLeader → Option Note → GatedLeader
leader_told s None = s
leader_told s (Some note) = leader_noted s note

-- the end of a request that was noted
abbrev pub leader_ended : GatedLeader → Option Ended → GatedLeader
leader_ended s ended = record s { leases = with_ended ended s.leases }

-- what a record makes of them, by its tag
abbrev pub leader_after : GatedLeader → List ℕ → GatedLeader
leader_after s [] = s
leader_after s (tag ∷ rest) =
    if tag == 1 then leader_heard s rest else
    (if tag == 2 then leader_acked s rest else
    (if tag == 20 then leader_asked s (ask_in rest) else
    (if tag == 21 then leader_ended s (ended_of rest) else leader_told s (note_in tag rest))))
