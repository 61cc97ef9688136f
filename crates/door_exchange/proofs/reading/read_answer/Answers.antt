use Rattle.std.proofs.Common.{ℕ, ◌-◌, take, rules, arith}
use Rattle.std.proofs.lemmas.List.{length-take}
use Rattle.door_exchange.proofs.TakingLaws.{front, gave_more, gave_none, gave_zero, more_wanted, put}
use Rattle.door_exchange.proofs.TakingLaws.{whole_read}
use Rattle.door_exchange.proofs.reading.read_answer.Goals as goal

pub reading-preserved : goal.reading-preserved
reading-preserved g c =
    let all = put c.reading.count c.in-Ok.more (12358 - c.reading.count) c.reading.came c.take.new.buf
    (omega arith) c.in-Ok.ensures.bound in
    let read = rw c.in-Ok-None.field-0-is at c.in-Ok-None.ensures.read in
    record {
      gave = rw all (gave_more _ _ _ _ _ c.reading.invariant.gave c.in-Ok.ensures.gave);
      small = omega (arith, c.in-Ok.ensures.bound, c.take.auto.buf);
      wanted = rw all (more_wanted _ _ _
          (omega (arith, length-take {A = ℕ}, c.in-Ok.ensures.bound, c.take.auto.buf)) read);
      unfailed = search rules;
      writes_nothing = search rules;
    }

pub returns-in-Ok-Some-clause-ends : goal.returns-in-Ok-Some-clause-ends
returns-in-Ok-Some-clause-ends g c = whole_read _ _ c.in-Ok-Some.field-0 (λ none. cc none)
    c.in-Ok-Some.ensures.read

pub returns-in-Err-take-clause-gave : goal.returns-in-Err-take-clause-gave
returns-in-Err-take-clause-gave g c =
    let same = front c.reading.count (12358 - c.reading.count) c.reading.came c.take.new.buf (omega arith) in
    rw same (gave_none _ _ _ _ c.reading.invariant.gave c.in-Err-take.ensures.failed)

pub returns-in-Err-take-clause-wanted : goal.returns-in-Err-take-clause-wanted
returns-in-Err-take-clause-wanted g c =
    let same = front c.reading.count (12358 - c.reading.count) c.reading.came c.take.new.buf (omega arith) in
    rw same c.reading.invariant.wanted

pub returns-in-Err-take-clause-ends : goal.returns-in-Err-take-clause-ends
returns-in-Err-take-clause-ends g c =
    let same = front c.reading.count (12358 - c.reading.count) c.reading.came c.take.new.buf (omega arith) in
    rw same (rw c.in-Ok-None.field-0-is at c.in-Ok-None.ensures.read)

pub returns-in-Ok-eq0-clause-gave : goal.returns-in-Ok-eq0-clause-gave
returns-in-Ok-eq0-clause-gave g c =
    let same = front c.reading.count (12358 - c.reading.count) c.reading.came c.take.new.buf (omega arith) in
    rw same (gave_zero _ _ _ _ _ c.in-Ok-eq0.field-0 (omega arith) c.reading.invariant.gave
    c.in-Ok-eq0.ensures.gave)

pub returns-in-Ok-eq0-clause-wanted : goal.returns-in-Ok-eq0-clause-wanted
returns-in-Ok-eq0-clause-wanted g c =
    let same = front c.reading.count (12358 - c.reading.count) c.reading.came c.take.new.buf (omega arith) in
    rw same c.reading.invariant.wanted

pub returns-in-Ok-eq0-clause-ends : goal.returns-in-Ok-eq0-clause-ends
returns-in-Ok-eq0-clause-ends g c =
    let same = front c.reading.count (12358 - c.reading.count) c.reading.came c.take.new.buf (omega arith) in
    rw same (rw c.in-Ok-None.field-0-is at c.in-Ok-None.ensures.read)
