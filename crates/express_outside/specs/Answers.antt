-- What the calls so far came to.
use Rattle.std.specs.Prelude.{◌≡◌, ◌⊎◌, ℕ, List, [], Bool, true, false, Option, Some, Result, Ok, Err}
use Rattle.std.specs.Prelude.{MatchBool, MatchResult}
use Rattle.std.specs.declared.time.Instant.{Instant}
use Rattle.express_words.specs.Streams.{Took, TookPrefix}
use Rattle.express_outside.specs.Calls.{IsRefusal}
use Rattle.express_outside.specs.Copying.{CopiedWhole}
use Rattle.express_outside.specs.Calls.{added, EndedBy}
use Rattle.express_outside.specs.declared.calls.Trouble.{Trouble}
use Rattle.express_outside.specs.declared.calls.WriteCall.{WriteCall}
use Rattle.express_outside.specs.declared.calls.WriteCall.TheVariants.{Flushed}
use Rattle.express_outside.specs.declared.file_calls.FileCall.{FileCall}
use Rattle.express_outside.specs.declared.file_calls.FileCall.TheVariants.{ReadAt, Synced, Named, Asked}
use Rattle.express_outside.specs.declared.file_calls.FileCall.TheVariants.{Unsettled, Settled, Begun, Replaced}
use Rattle.express_outside.specs.declared.patience.Limit.{Limit}
use Rattle.express_outside.specs.declared.file_disk.FileDisk.{FileDisk}
use Rattle.express_outside.specs.declared.tcp_net.Connected.{Connected}
use Rattle.express_outside.specs.declared.tcp_net.PortCall.{PortCall}

-- ---- what takes bytes

-- All of the bytes were taken where the write is told to be whole, and else a prefix of them.
abbrev pub TookIfWhole : Bool → Option (List ℕ) → Option (List ℕ) → List ℕ → Type 0
TookIfWhole whole old new bytes = MatchBool whole (Took old new bytes) (TookPrefix old new bytes)

-- the last call handed on what was held back
abbrev pub EndedByFlush : Option (List WriteCall) → Type 0
EndedByFlush calls = EndedBy calls (Flushed (Ok tt))

-- the last call refused
abbrev pub EndedByRefusal : Option (List WriteCall) → Type 0
EndedByRefusal calls = (last : WriteCall) × IsRefusal last × EndedBy calls last

-- ---- a file

-- the last call was a read, and there was nothing to read
abbrev pub EndedByEnd : Option (List FileCall) → Type 0
EndedByEnd calls = (from : ℕ) × EndedBy calls (ReadAt from (Ok []))

-- A file of which it isn't noted that a sync of it failed: that was asked, and the file was synced. No other call
-- was made.
abbrev pub OpenedAsItWas : (old new : Option (List FileCall)) → Type 0
OpenedAsItWas old new = new ≡ added (Synced (Ok tt)) (added (Asked (Ok false)) old)

-- A copy of all that the file has was begun and took its place, and then the note was taken away.
abbrev pub Renewed : (old new : Option (List FileCall)) → Type 0
Renewed old new = (copied : Option (List FileCall)) × CopiedWhole (added (Begun (Ok tt)) old) copied
    × (new ≡ added (Settled (Ok tt)) (added (Replaced (Ok tt)) copied))

-- A file of which that is noted: that was asked, a copy of it took its place, and it was synced.
abbrev pub OpenedAnew : (old new : Option (List FileCall)) → Type 0
OpenedAnew old new = (renewed : Option (List FileCall)) × Renewed (added (Asked (Ok true)) old) renewed
    × (new ≡ added (Synced (Ok tt)) renewed)

-- A file was opened, and what it had is on the disk: as it was, or anew.
abbrev pub OpenedSettled : (old new : Option (List FileCall)) → Type 0
OpenedSettled old new = OpenedAsItWas old new ⊎ OpenedAnew old new

-- A file that may be written, and hasn't been opened yet.
abbrev pub IsUnopened : {F : Type 0} → FileDisk F → Type 0
IsUnopened disk = (disk.is_open ≡ false) × (disk.is_only_read ≡ false)

-- a sync failed, and that was noted beside the file, if that could be
abbrev pub EndedUnsettled : Option (List FileCall) → Type 0
EndedUnsettled calls = (before : Option (List FileCall)) × (why : Trouble) × (noted : Result (Unit {0}) Trouble)
    × (calls ≡ added (Unsettled noted) (added (Synced (Err why)) before))

-- the file was synced, and then had its name still
abbrev pub EndedSynced : Option (List FileCall) → Type 0
EndedSynced calls =
    (before : Option (List FileCall)) × (calls ≡ added (Named (Ok tt)) (added (Synced (Ok tt)) before))

-- ---- what answers a value or a trouble

-- the last answer was a trouble
abbrev pub EndedByTrouble : {T : Type 0} → Option (List (Result T Trouble)) → Type 0
EndedByTrouble answers = (why : Trouble) × EndedBy answers (Err why)

-- one call more that connects: with the moment of a connection, or with a trouble
abbrev pub AddsConnect : {S : Type 0} → (Result Instant Trouble → PortCall) → Option (List PortCall)
    → Option (List PortCall) → Result (Connected S) Trouble → Type 0
AddsConnect call old new result =
    MatchResult result (λ made. new ≡ added (call (Ok made.at)) old) (λ why. new ≡ added (call (Err why)) old)

-- the last call was this one, and it failed
abbrev pub EndedByFailure : {A : Type 0} → (Result A Trouble → PortCall) → Option (List PortCall) → Type 0
EndedByFailure call calls = (why : Trouble) × EndedBy calls (call (Err why))

-- the last call was this one, with a connection made at the moment at which the limit began
abbrev pub EndedByMoment : (Result Instant Trouble → PortCall) → Limit → Option (List PortCall) → Type 0
EndedByMoment call limit calls = (at : Instant) × (limit.began ≡ Some at) × EndedBy calls (call (Ok at))
