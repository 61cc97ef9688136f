use Rattle.std.proofs.Common.{◌≡◌, sym, ap, subst}
use Rattle.node_journal.specs.Disk.{IsUntouched, Elapses}
use Rattle.node_journal.specs.History.{History, seen_of, synced}
use Rattle.node_journal.specs.Memory.{DiskState, LogState}
use Rattle.node_journal.proofs.Histories.{sync_content, sync_time}
use Rattle.node_journal.proofs.memory_disk.MemoryDiskDisk.sync.Goals as goal

pub returns-clause-untouched : goal.returns-clause-untouched
returns-clause-untouched c =
    let before = c.self.inside.log.history in
    let now = c.sync.new.self.history in
    let old : before ≡ c.args.self.now.log.history = ap (λ (d : DiskState). d.log.history) c.self.view_is in
    let new : synced before ≡ now = sym (ap (λ (l : LogState). l.history) c.sync.ensures) in
    subst (λ (h : History). IsUntouched (seen_of h) (seen_of now)) old
    (subst (λ (h : History). IsUntouched (seen_of before) (seen_of h)) new (sync_content before))

pub returns-clause-time : goal.returns-clause-time
returns-clause-time c =
    let before = c.self.inside.log.history in
    let now = c.sync.new.self.history in
    let old : before ≡ c.args.self.now.log.history = ap (λ (d : DiskState). d.log.history) c.self.view_is in
    let new : synced before ≡ now = sym (ap (λ (l : LogState). l.history) c.sync.ensures) in
    subst (λ (h : History). Elapses (seen_of h) (seen_of now)) old
    (subst (λ (h : History). Elapses (seen_of before) (seen_of h)) new (sync_time before))
