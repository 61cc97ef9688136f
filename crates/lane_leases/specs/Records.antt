-- What changes a leader's gate, and the records of it.
use Rattle.std.specs.Prelude.{◌≡◌, ℕ, List, ◌∷◌, ◌++◌, length}
use Rattle.lane_gate.specs.Notes.{IsNote, note_record}
use Rattle.lane_leases.specs.declared.ask.Ask.{Ask}
use Rattle.lane_leases.specs.declared.ended.End.{End}
use Rattle.lane_leases.specs.declared.ended.End.TheVariants.{Written, NotWritten}
use Rattle.lane_leases.specs.declared.ended.Ended.{Ended}
use Rattle.lane_leases.specs.declared.record.LeaderNote.{LeaderNote}
use Rattle.lane_leases.specs.declared.record.LeaderNote.TheVariants as leader
use Rattle.lane_leases.specs.Leases.{IsOfRow}

-- two hashes of 32 bytes
pub record IsAsk (ask : Ask) : Type 0 where
  pub own : length ask.own.0 ≡ 32
  pub helper : length ask.helper.0 ≡ 32

abbrev pub ask_bytes : Ask → List ℕ
ask_bytes ask = ask.own.0 ++ ask.helper.0

abbrev pub IsEnded : Ended → Type 0
IsEnded ended = length ended.hash.0 ≡ 32

abbrev pub end_number : End → ℕ
end_number Written = 1
end_number NotWritten = 2

abbrev pub IsLeaderNote : LeaderNote → Type 0
IsLeaderNote (leader.Row note) = IsNote note × IsOfRow note
IsLeaderNote (leader.Asked ask) = IsAsk ask
IsLeaderNote (leader.Ended ended) = IsEnded ended

abbrev pub leader_record : LeaderNote → List ℕ
leader_record (leader.Row note) = note_record note
leader_record (leader.Asked ask) = 20 ∷ ask_bytes ask
leader_record (leader.Ended ended) = 21 ∷ end_number ended.end ∷ ended.hash.0
