use Rattle.std.proofs.Common.{arith}
use Rattle.node_journal.specs.Records.{LeavesNoneOrFirst}
use Rattle.node_journal.proofs.Moments.{started, goes_on, and_then, widened}
use Rattle.node_journal.proofs.Places.{blank_leaves, first_leaves}
use Rattle.node_journal.proofs.journal.Journal.create.Goals as goal

pub returns-in-Ok-clause-any_moment : goal.returns-in-Ok-clause-any_moment
returns-in-Ok-clause-any_moment g c none =
    let D = g.D.Disk in
    let disk = c.args.disk.now in
    let P = LeavesNoneOrFirst c.args.limit c.args.first.now in
    let blank = blank_leaves c.args.limit c.args.first.now (D.disk disk).may_leave none in
    let start = started (D.disk disk) P (λ f left. blank f (g.met.D.Disk.only_now disk f left)) in
    goes_on (D.disk disk) (D.disk disk) (D.disk c.read.new.self) P start c.read.ensures.time (λ f now. blank f (c.read.ensures.untouched.crash f now))

pub returns-in-Err-clause-any_moment : goal.returns-in-Err-clause-any_moment
returns-in-Err-clause-any_moment g c none =
    let D = g.D.Disk in
    let disk = c.args.disk.now in
    let P = LeavesNoneOrFirst c.args.limit c.args.first.now in
    let blank = blank_leaves c.args.limit c.args.first.now (D.disk disk).may_leave none in
    let start = started (D.disk disk) P (λ f left. blank f (g.met.D.Disk.only_now disk f left)) in
    goes_on (D.disk disk) (D.disk disk) (D.disk c.read.new.self) P start c.read.ensures.time (λ f now. blank f (c.read.ensures.untouched.crash f now))

pub returns-then-limit-size-clause-any_moment : goal.returns-then-limit-size-clause-any_moment
returns-then-limit-size-clause-any_moment g c none =
    let D = g.D.Disk in
    let disk = c.args.disk.now in
    let P = LeavesNoneOrFirst c.args.limit c.args.first.now in
    let blank = blank_leaves c.args.limit c.args.first.now (D.disk disk).may_leave none in
    let start = started (D.disk disk) P (λ f left. blank f (g.met.D.Disk.only_now disk f left)) in
    goes_on (D.disk disk) (D.disk disk) (D.disk c.read.new.self) P start c.read.ensures.time (λ f now. blank f (c.read.ensures.untouched.crash f now))

pub returns-in-Ok-put_first-clause-any_moment : goal.returns-in-Ok-put_first-clause-any_moment
returns-in-Ok-put_first-clause-any_moment g c none =
    let D = g.D.Disk in
    let disk = c.args.disk.now in
    let P = LeavesNoneOrFirst c.args.limit c.args.first.now in
    let blank = blank_leaves c.args.limit c.args.first.now (D.disk disk).may_leave none in
    let start = started (D.disk disk) P (λ f left. blank f (g.met.D.Disk.only_now disk f left)) in
    let read = goes_on (D.disk disk) (D.disk disk) (D.disk c.read.new.self) P start c.read.ensures.time (λ f now. blank f (c.read.ensures.untouched.crash f now)) in
    let made = c.put_first.ensures.any_moment (λ f now. none f (c.read.ensures.untouched.crash f now)) in
    and_then (D.disk disk) (D.disk c.read.new.self) (D.disk c.put_first.new.disk) P read
    (widened (D.disk c.read.new.self) (D.disk c.put_first.new.disk) _ P made (first_leaves c.args.limit c.args.first.now (omega arith)))

pub returns-in-Err-put_first-clause-any_moment : goal.returns-in-Err-put_first-clause-any_moment
returns-in-Err-put_first-clause-any_moment g c none =
    let D = g.D.Disk in
    let disk = c.args.disk.now in
    let P = LeavesNoneOrFirst c.args.limit c.args.first.now in
    let blank = blank_leaves c.args.limit c.args.first.now (D.disk disk).may_leave none in
    let start = started (D.disk disk) P (λ f left. blank f (g.met.D.Disk.only_now disk f left)) in
    let read = goes_on (D.disk disk) (D.disk disk) (D.disk c.read.new.self) P start c.read.ensures.time (λ f now. blank f (c.read.ensures.untouched.crash f now)) in
    let made = c.put_first.ensures.any_moment (λ f now. none f (c.read.ensures.untouched.crash f now)) in
    and_then (D.disk disk) (D.disk c.read.new.self) (D.disk c.put_first.new.disk) P read
    (widened (D.disk c.read.new.self) (D.disk c.put_first.new.disk) _ P made (first_leaves c.args.limit c.args.first.now (omega arith)))
