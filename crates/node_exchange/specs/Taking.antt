-- Reading one frame from a source.
use Rattle.std.specs.Prelude.{◌≡◌, ◌≢◌, ℕ, ◌+◌, ◌≤◌, List, length, Ok, Err}
use Rattle.std.specs.Result.{result_unwrap_or}
use Rattle.frame_rules.specs.declared.fault.FrameFault.{FrameFault}
use Rattle.frame_rules.specs.declared.fault.FrameFault.TheVariants.{Short}
use Rattle.frame_rules.specs.Frames.{PlainFrame}
use Rattle.frame_rules.specs.Reading.{length_in, decoded}
use Rattle.node_exchange.specs.declared.reading.Reading.{Reading}
use Rattle.node_exchange.specs.declared.reading.Reading.TheVariants as reading

-- so many bytes of a frame are taken at most: its length's four, and behind a right length those that it says
abbrev pub most : List ℕ → ℕ
most taken = 4 + result_unwrap_or (length_in taken) 0

-- never more than that was taken
abbrev pub IsWanted : List ℕ → Type 0
IsWanted taken = length taken ≤ most taken

-- one frame and nothing behind it
abbrev pub IsOneFrame : List ℕ → Type 0
IsOneFrame bytes = (f : PlainFrame) × (decoded bytes ≡ Ok (f, length bytes))

-- bytes that are known to be no frame, for this reason
abbrev pub IsNoFrame : FrameFault → List ℕ → Type 0
IsNoFrame fault bytes = (decoded bytes ≡ Err fault) × (fault ≢ Short)

-- what was taken, by how reading ended: it is one frame, or known to be none, or the source ended or failed
-- before that
abbrev pub EndsBy : Reading → List ℕ → Type 0
EndsBy reading.Whole taken = IsOneFrame taken
EndsBy (reading.Wrong fault) taken = IsNoFrame fault taken
EndsBy _ taken = decoded taken ≡ Err Short
