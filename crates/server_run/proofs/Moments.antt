-- The moments of a run.
use Rattle.std.proofs.Common.{◌≡◌, List, ◌++◌, Option, Ok, Err}
use Rattle.std.specs.Prelude.{OnOk, OnErr, Result}
use Rattle.many_words.specs.Events.{Event}
use Rattle.many_conns.specs.Ends.{BreaksOff}
use Rattle.node_journal.specs.Disk.{DiskSeen}
use Rattle.logged_hub.specs.Runs.{CallByCall, Fails, Proceeds, calls_then}
use Rattle.logged_hub.specs.State.{HubState}

module _ {W D : Type 0} (tells : W → Option (List Event)) (shows : D → DiskSeen) (old new : HubState W D) where
  abbrev Breaks : Type 0
  Breaks = BreaksOff (Proceeds tells shows) (Fails tells shows) old new

  pub all_calls : {T E : Type 0} (ended : Result T E) → OnOk ended (Proceeds tells shows old new) → OnErr ended Breaks
      → CallByCall tells shows old new
  all_calls (Ok done) went_on broke = went_on.calls
  all_calls (Err why) went_on broke =
      let first = broke.went_on.calls in
      let last = broke.failed.calls in
      (first.0 ++ last.0, calls_then tells shows first.0 last.0 old broke.before new first.1 last.1)

  pub no_fault : {T E : Type 0} (ended : Result T E) → OnOk ended (Proceeds tells shows old new)
      → OnOk ended (new.fault ≡ old.fault)
  no_fault (Ok done) went_on = went_on.fault
  no_fault (Err why) went_on = went_on
