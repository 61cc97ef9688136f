-- What frames leave that were handed to a server one after another, up to one that wasn't kept.
use Rattle.std.proofs.Common.{List, [], ◌++◌, Result, Ok, Err, ℕ}
use Rattle.std.specs.Prelude.{IfErr}
use Rattle.express_words.specs.Seen.{Seen}
use Rattle.node_journal.specs.Disk.{DiskSeen}
use Rattle.kept_machine.specs.declared.fault.KeepFault.{KeepFault}
use Rattle.node_journal.specs.declared.fault.JournalFault.TheVariants.{Closed, Full, Disk}
use Rattle.kept_machine.specs.declared.fault.KeepFault.TheVariants.{Journal}
use Rattle.node_restart.specs.declared.did.Did.{Did}
use Rattle.node_restart.specs.Calls.{KeepsFrame}
use Rattle.node_restart.specs.Frames.{Handed}
use Rattle.node_restart.specs.Kept.{KeptState}
use Rattle.node_restart.specs.Keeping.{begun, kept_of, Keeps, KeepsUpTo, MayLeaveFirst, Refuses}
use Rattle.node_restart.proofs.HandLaws.{leaves_one, refuses_handed}
use Rattle.node_restart.proofs.KeepLaws.{adds_none, keeps_both, keeps_none, leaves_then}

refused_leaves : {D : Type 0} (shows : D → DiskSeen) (old new : KeptState D) (h : Handed) (fault : KeepFault) → Refuses shows old new h fault → MayLeaveFirst shows old new (begun fault h)
refused_leaves shows old new h (Journal (Disk n)) it = leaves_one shows old new h it.cause.0 it.any_moment
refused_leaves shows old new h (Journal Closed) it = (adds_none shows old new it.cause.1).leaves
refused_leaves shows old new h (Journal (Full end)) it = (adds_none shows old new it.cause.3).leaves
refused_leaves shows old new h _ it = absurd it.cause

keeps_up_to : {D : Type 0} (shows : D → DiskSeen) (a b c : KeptState D) (f : List Handed) (refused : Handed) (fault : KeepFault)
    → Keeps shows a b f → Refuses shows b c refused fault → KeepsUpTo shows a c f refused fault
keeps_up_to shows a b c f refused fault one two =
    record { between = b; keeps = one; refuses = two; leaves = leaves_then shows a b c (kept_of f) (begun fault refused) one.adds (refused_leaves shows b c refused fault two) }

pub keeps_then : {D : Type 0} (shows : D → DiskSeen) (a b c : KeptState D) (f g : List Handed) (refused : Handed) (fault : KeepFault)
    → Keeps shows a b f → KeepsUpTo shows b c g refused fault
    → KeepsUpTo shows a c (f ++ g) refused fault
keeps_then shows a b c f g refused fault one two =
    keeps_up_to shows a two.between c (f ++ g) refused fault (keeps_both shows a b two.between f g one two.keeps) two.refuses

pub stops_handed : {D : Type 0} (shows : D → DiskSeen) (seen : D → Seen)
    (x : Handed) (old new : KeptState D) (out out_new : List ℕ) (r : Result Did KeepFault)
    → KeepsFrame shows seen x old new out out_new r → IfErr r (KeepsUpTo shows old new [] x)
stops_handed shows seen x old new out out_new (Ok did) h = tt
stops_handed shows seen x old new out out_new (Err fault) h =
    keeps_up_to shows old old new [] x fault (keeps_none shows old) (refuses_handed shows seen x old new out out_new (Err fault) h)
