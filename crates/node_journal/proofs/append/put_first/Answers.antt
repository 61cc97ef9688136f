use Rattle.std.proofs.Common.{◌≡◌, [], ◌∷◌, ◌++◌, List, ℕ, ◌∙◌, ap}
use Rattle.std.proofs.lemmas.Result.{on_ok_weaker}
use Rattle.node_journal.specs.Records.{RestsNoneOrFirst, content}
use Rattle.node_journal.proofs.Moments.{started, goes_on, and_then, widened}
use Rattle.node_journal.proofs.Steps.{none_rests, torn_rests, first_rests, first_gate, ends_first}
use Rattle.node_journal.proofs.append.put_first.Goals as goal

pub put_record-requires-clause-ends : goal.put_record-requires-clause-ends
put_record-requires-clause-ends g c f read =
    let D = g.D.Disk in
    let gate = first_gate (D.disk c.args.disk.now).reads (D.disk c.write.new.self).reads c.requires.empty c.in_ok-write.ensures.written in
    ends_first f (gate f (c.sync.ensures.untouched.gives f read))

pub returns-in_err-write-clause-any_moment : goal.returns-in_err-write-clause-any_moment
returns-in_err-write-clause-any_moment g c none =
    let D = g.D.Disk in
    let disk = c.args.disk.now in
    let P = RestsNoneOrFirst c.args.bytes.now in
    let start = started (D.disk disk) P (λ f left. none_rests c.args.bytes.now (D.disk disk).may_leave none f (g.met.D.Disk.only_now disk f left)) in
    let torn = torn_rests c.args.bytes.now (D.disk disk).may_leave (D.disk c.write.new.self).may_leave none c.write.ensures.crash in
    goes_on (D.disk disk) (D.disk disk) (D.disk c.write.new.self) P start c.write.ensures.time torn

pub returns-in_err-sync-clause-any_moment : goal.returns-in_err-sync-clause-any_moment
returns-in_err-sync-clause-any_moment g c none =
    let D = g.D.Disk in
    let disk = c.args.disk.now in
    let P = RestsNoneOrFirst c.args.bytes.now in
    let start = started (D.disk disk) P (λ f left. none_rests c.args.bytes.now (D.disk disk).may_leave none f (g.met.D.Disk.only_now disk f left)) in
    let torn = torn_rests c.args.bytes.now (D.disk disk).may_leave (D.disk c.write.new.self).may_leave none c.write.ensures.crash in
    let gate = goes_on (D.disk disk) (D.disk disk) (D.disk c.write.new.self) P start c.write.ensures.time torn in
    goes_on (D.disk disk) (D.disk c.write.new.self) (D.disk c.sync.new.self) P gate c.sync.ensures.time (λ f now. torn f (c.sync.ensures.untouched.crash f now))

pub returns-clause-any_moment : goal.returns-clause-any_moment
returns-clause-any_moment g c none =
    let D = g.D.Disk in
    let disk = c.args.disk.now in
    let P = RestsNoneOrFirst c.args.bytes.now in
    let start = started (D.disk disk) P (λ f left. none_rests c.args.bytes.now (D.disk disk).may_leave none f (g.met.D.Disk.only_now disk f left)) in
    let torn = torn_rests c.args.bytes.now (D.disk disk).may_leave (D.disk c.write.new.self).may_leave none c.write.ensures.crash in
    let gate = goes_on (D.disk disk) (D.disk disk) (D.disk c.write.new.self) P start c.write.ensures.time torn in
    let kept = goes_on (D.disk disk) (D.disk c.write.new.self) (D.disk c.sync.new.self) P gate c.sync.ensures.time (λ f now. torn f (c.sync.ensures.untouched.crash f now)) in
    let shut = first_gate (D.disk disk).reads (D.disk c.write.new.self).reads c.requires.empty c.in_ok-write.ensures.written in
    let rests = first_rests c.args.bytes.now (D.disk c.sync.new.self).reads (λ f read. shut f (c.sync.ensures.untouched.gives f read)) in
    let behind = widened (D.disk c.sync.new.self) (D.disk c.put_record.new.disk) _ P c.put_record.ensures.any_moment rests in
    and_then (D.disk disk) (D.disk c.sync.new.self) (D.disk c.put_record.new.disk) P kept behind

pub returns-clause-added : goal.returns-clause-added
returns-clause-added g c =
    let D = g.D.Disk in
    let shut = first_gate (D.disk c.args.disk.now).reads (D.disk c.write.new.self).reads c.requires.empty c.in_ok-write.ensures.written in
    let gate : (f : List ℕ) → (D.disk c.sync.new.self).reads f → f ≡ 0 ∷ [] = λ f read. shut f (c.sync.ensures.untouched.gives f read) in
    on_ok_weaker c.put_record.result (λ done f read.
    let from = (done f read).1 in
    ((done f read).0, from.2 ∙ ap (λ (x : List ℕ). content x ++ c.args.bytes.now ∷ []) (gate from.0 from.1))) c.put_record.ensures.added
