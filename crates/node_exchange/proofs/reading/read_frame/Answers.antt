use Rattle.std.proofs.Common.{◌≡◌, ◌≤◌, ◌+◌, ◌-◌, ◌++◌, ℕ, List, length, take, rules, arith}
use Rattle.std.proofs.Math.Seq.{take-add}
use Rattle.std.proofs.lemmas.Grind.{common_steps}
use Rattle.std.proofs.lemmas.List.{length-take}
use borrow.Rule.Slice.PartMut.{put_mid}
use Rattle.node_exchange.proofs.TakingLaws.{gave_more, more_wanted}
use Rattle.node_exchange.proofs.reading.read_frame.Goals as goal

-- the bytes of one take behind those before
put : (count more k : ℕ) (into taken : List ℕ) → count ≤ length into → more ≤ length taken
    → take (count + more) (put_mid count k into taken) ≡ take count into ++ take more taken
put count more k into taken within few = grind (arith, common_steps, take-add count more (put_mid count k into taken))

pub reading-preserved : goal.reading-preserved
reading-preserved g c =
    let all = put c.reading.count c.in-Ok-take.more (c.reading.count + c.missing_from-want.result - c.reading.count) c.reading.into c.take.new.buf (omega arith) c.in-Ok-take.ensures.bound in
    record {
      gave = rw all (gave_more _ _ _ _ _ c.reading.invariant.gave c.in-Ok-take.ensures.gave);
      small = omega (arith, c.missing_from-want.ensures.room, c.in-Ok-take.ensures.bound, c.take.auto.buf, length-take c.reading.count c.reading.into);
      wanted = rw all (more_wanted _ _ (rw c.in-Err-Short.field-0-is at c.in-Err-Short.ensures.exact)
          (omega (arith, length-take {A = ℕ}, c.in-Ok-take.ensures.bound, c.take.auto.buf, c.missing_from-want.ensures.exact)));
      unfailed = search rules;
      writes_nothing = search rules;
    }
