use Rattle.std.proofs.Common.{length}
use Rattle.node_journal.specs.Batches.{RestsBeforeOrAll}
use Rattle.node_journal.proofs.Moments.{started, goes_on}
use Rattle.node_journal.proofs.Steps.{at_start, first, staged, second, last}
use Rattle.node_journal.proofs.append.put_batch.Goals as goal

pub returns-in_err-write-clause-any_moment : goal.returns-in_err-write-clause-any_moment
returns-in_err-write-clause-any_moment g c = λ added sized spells.
    let D = g.D.Disk in
    let disk = c.args.disk.now in
    let P = RestsBeforeOrAll (D.disk disk).reads c.args.end added in
    let start = started (D.disk disk) P (λ f left. at_start c.args.end added c.args.bytes.now sized spells (g.D.Disk.disk c.args.disk.now).reads (g.D.Disk.disk c.args.disk.now).may_leave c.requires.ends c.requires.durable f (g.met.D.Disk.only_now disk f left)) in
    let first = first c.args.end added c.args.bytes.now sized spells (g.D.Disk.disk c.args.disk.now).reads (g.D.Disk.disk c.args.disk.now).may_leave c.requires.ends c.requires.durable (length c.args.bytes.now) (D.disk c.write.new.self).may_leave c.write.ensures.crash in
    let behind = goes_on (D.disk disk) (D.disk disk) (D.disk c.write.new.self) P start c.write.ensures.time first in
    behind

pub returns-in_err-sync-clause-any_moment : goal.returns-in_err-sync-clause-any_moment
returns-in_err-sync-clause-any_moment g c = λ added sized spells.
    let D = g.D.Disk in
    let disk = c.args.disk.now in
    let P = RestsBeforeOrAll (D.disk disk).reads c.args.end added in
    let start = started (D.disk disk) P (λ f left. at_start c.args.end added c.args.bytes.now sized spells (g.D.Disk.disk c.args.disk.now).reads (g.D.Disk.disk c.args.disk.now).may_leave c.requires.ends c.requires.durable f (g.met.D.Disk.only_now disk f left)) in
    let first = first c.args.end added c.args.bytes.now sized spells (g.D.Disk.disk c.args.disk.now).reads (g.D.Disk.disk c.args.disk.now).may_leave c.requires.ends c.requires.durable (length c.args.bytes.now) (D.disk c.write.new.self).may_leave c.write.ensures.crash in
    let behind = goes_on (D.disk disk) (D.disk disk) (D.disk c.write.new.self) P start c.write.ensures.time first in
    let kept = goes_on (D.disk disk) (D.disk c.write.new.self) (D.disk c.sync.new.self) P behind c.sync.ensures.time (λ f now. first f (c.sync.ensures.untouched.crash f now)) in
    kept

pub returns-in_err-write-2-clause-any_moment : goal.returns-in_err-write-2-clause-any_moment
returns-in_err-write-2-clause-any_moment g c = λ added sized spells.
    let D = g.D.Disk in
    let disk = c.args.disk.now in
    let P = RestsBeforeOrAll (D.disk disk).reads c.args.end added in
    let start = started (D.disk disk) P (λ f left. at_start c.args.end added c.args.bytes.now sized spells (g.D.Disk.disk c.args.disk.now).reads (g.D.Disk.disk c.args.disk.now).may_leave c.requires.ends c.requires.durable f (g.met.D.Disk.only_now disk f left)) in
    let first = first c.args.end added c.args.bytes.now sized spells (g.D.Disk.disk c.args.disk.now).reads (g.D.Disk.disk c.args.disk.now).may_leave c.requires.ends c.requires.durable (length c.args.bytes.now) (D.disk c.write.new.self).may_leave c.write.ensures.crash in
    let behind = goes_on (D.disk disk) (D.disk disk) (D.disk c.write.new.self) P start c.write.ensures.time first in
    let kept = goes_on (D.disk disk) (D.disk c.write.new.self) (D.disk c.sync.new.self) P behind c.sync.ensures.time (λ f now. first f (c.sync.ensures.untouched.crash f now)) in
    let written = c.in_ok-write.ensures.written in
    let staged = staged c.args.end added c.args.bytes.now sized spells (g.D.Disk.disk c.args.disk.now).reads (g.D.Disk.disk c.args.disk.now).may_leave c.requires.ends c.requires.durable (D.disk c.write.new.self).reads written in
    let second = second c.args.end added c.args.bytes.now sized spells (g.D.Disk.disk c.args.disk.now).reads (g.D.Disk.disk c.args.disk.now).may_leave c.requires.ends c.requires.durable (D.disk c.sync.new.self).may_leave (D.disk c.write-2.new.self).may_leave (λ f now. staged f (c.sync.ensures.untouched.gives f (c.in_ok-sync.ensures.durable f now))) c.write-2.ensures.crash in
    let opened = goes_on (D.disk disk) (D.disk c.sync.new.self) (D.disk c.write-2.new.self) P kept c.write-2.ensures.time second in
    opened

pub returns-in_err-sync-2-clause-any_moment : goal.returns-in_err-sync-2-clause-any_moment
returns-in_err-sync-2-clause-any_moment g c = λ added sized spells.
    let D = g.D.Disk in
    let disk = c.args.disk.now in
    let P = RestsBeforeOrAll (D.disk disk).reads c.args.end added in
    let start = started (D.disk disk) P (λ f left. at_start c.args.end added c.args.bytes.now sized spells (g.D.Disk.disk c.args.disk.now).reads (g.D.Disk.disk c.args.disk.now).may_leave c.requires.ends c.requires.durable f (g.met.D.Disk.only_now disk f left)) in
    let first = first c.args.end added c.args.bytes.now sized spells (g.D.Disk.disk c.args.disk.now).reads (g.D.Disk.disk c.args.disk.now).may_leave c.requires.ends c.requires.durable (length c.args.bytes.now) (D.disk c.write.new.self).may_leave c.write.ensures.crash in
    let behind = goes_on (D.disk disk) (D.disk disk) (D.disk c.write.new.self) P start c.write.ensures.time first in
    let kept = goes_on (D.disk disk) (D.disk c.write.new.self) (D.disk c.sync.new.self) P behind c.sync.ensures.time (λ f now. first f (c.sync.ensures.untouched.crash f now)) in
    let written = c.in_ok-write.ensures.written in
    let staged = staged c.args.end added c.args.bytes.now sized spells (g.D.Disk.disk c.args.disk.now).reads (g.D.Disk.disk c.args.disk.now).may_leave c.requires.ends c.requires.durable (D.disk c.write.new.self).reads written in
    let second = second c.args.end added c.args.bytes.now sized spells (g.D.Disk.disk c.args.disk.now).reads (g.D.Disk.disk c.args.disk.now).may_leave c.requires.ends c.requires.durable (D.disk c.sync.new.self).may_leave (D.disk c.write-2.new.self).may_leave (λ f now. staged f (c.sync.ensures.untouched.gives f (c.in_ok-sync.ensures.durable f now))) c.write-2.ensures.crash in
    let opened = goes_on (D.disk disk) (D.disk c.sync.new.self) (D.disk c.write-2.new.self) P kept c.write-2.ensures.time second in
    let ended = goes_on (D.disk disk) (D.disk c.write-2.new.self) (D.disk c.sync-2.new.self) P opened c.sync-2.ensures.time (λ f now. second f (c.sync-2.ensures.untouched.crash f now)) in
    ended

pub returns-clause-any_moment : goal.returns-clause-any_moment
returns-clause-any_moment g c = λ added sized spells.
    let D = g.D.Disk in
    let disk = c.args.disk.now in
    let P = RestsBeforeOrAll (D.disk disk).reads c.args.end added in
    let start = started (D.disk disk) P (λ f left. at_start c.args.end added c.args.bytes.now sized spells (g.D.Disk.disk c.args.disk.now).reads (g.D.Disk.disk c.args.disk.now).may_leave c.requires.ends c.requires.durable f (g.met.D.Disk.only_now disk f left)) in
    let first = first c.args.end added c.args.bytes.now sized spells (g.D.Disk.disk c.args.disk.now).reads (g.D.Disk.disk c.args.disk.now).may_leave c.requires.ends c.requires.durable (length c.args.bytes.now) (D.disk c.write.new.self).may_leave c.write.ensures.crash in
    let behind = goes_on (D.disk disk) (D.disk disk) (D.disk c.write.new.self) P start c.write.ensures.time first in
    let kept = goes_on (D.disk disk) (D.disk c.write.new.self) (D.disk c.sync.new.self) P behind c.sync.ensures.time (λ f now. first f (c.sync.ensures.untouched.crash f now)) in
    let written = c.in_ok-write.ensures.written in
    let staged = staged c.args.end added c.args.bytes.now sized spells (g.D.Disk.disk c.args.disk.now).reads (g.D.Disk.disk c.args.disk.now).may_leave c.requires.ends c.requires.durable (D.disk c.write.new.self).reads written in
    let second = second c.args.end added c.args.bytes.now sized spells (g.D.Disk.disk c.args.disk.now).reads (g.D.Disk.disk c.args.disk.now).may_leave c.requires.ends c.requires.durable (D.disk c.sync.new.self).may_leave (D.disk c.write-2.new.self).may_leave (λ f now. staged f (c.sync.ensures.untouched.gives f (c.in_ok-sync.ensures.durable f now))) c.write-2.ensures.crash in
    let opened = goes_on (D.disk disk) (D.disk c.sync.new.self) (D.disk c.write-2.new.self) P kept c.write-2.ensures.time second in
    let ended = goes_on (D.disk disk) (D.disk c.write-2.new.self) (D.disk c.sync-2.new.self) P opened c.sync-2.ensures.time (λ f now. second f (c.sync-2.ensures.untouched.crash f now)) in
    ended

pub returns-clause-added : goal.returns-clause-added
returns-clause-added g c = λ added sized spells.
    let D = g.D.Disk in
    let disk = c.args.disk.now in
    let written = c.in_ok-write.ensures.written in
    let staged = staged c.args.end added c.args.bytes.now sized spells (g.D.Disk.disk c.args.disk.now).reads (g.D.Disk.disk c.args.disk.now).may_leave c.requires.ends c.requires.durable (D.disk c.write.new.self).reads written in
    λ f read. last c.args.end added c.args.bytes.now sized spells (g.D.Disk.disk c.args.disk.now).reads (g.D.Disk.disk c.args.disk.now).may_leave c.requires.ends c.requires.durable (D.disk c.sync.new.self).reads (D.disk c.write-2.new.self).reads (λ f now. staged f (c.sync.ensures.untouched.gives f now)) c.in_ok-write-2.ensures.written f (c.sync-2.ensures.untouched.gives f read)
