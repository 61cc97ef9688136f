use Rattle.std.proofs.Common.{◌≡◌, ◌≤◌, ◌+◌, ◌-◌, ◌++◌, [], inl, inr, refl, ℕ, List, length, take, ap, subst, rules, arith}
use Rattle.std.proofs.Math.Seq.{take-add}
use Rattle.std.proofs.lemmas.Grind.{common_steps}
use Rattle.std.proofs.lemmas.List.{length-take, length-append}
use borrow.Rule.Slice.PartMut.{put_mid}
use Rattle.express_words.specs.Causes.{Rose}
use Rattle.express_words.specs.Streams.{IsAtEnd}
use Rattle.socks_proxy.proofs.TalkLaws.{gave_more}
use Rattle.socks_proxy.proofs.hearing.hear.Goals as goal

-- the bytes of one take behind those before
put : (count more k : ℕ) (into taken : List ℕ) → count ≤ length into → more ≤ length taken
    → take (count + more) (put_mid count k into taken) ≡ take count into ++ take more taken
put count more k into taken within few = grind (arith, common_steps, take-add count more (put_mid count k into taken))

long : (count more k : ℕ) (into taken : List ℕ) → count ≤ length into → more ≤ length taken → count + more ≤ length (put_mid count k into taken)
long count more k into taken within few =
    omega (arith, ap length (put count more k into taken within few), length-take (count + more) (put_mid count k into taken), length-append (take count into) (take more taken), length-take count into, length-take more taken)

pub hearing-preserved : goal.hearing-preserved
hearing-preserved g c =
    let all = put c.hearing.count c.in-Ok.more (length c.hearing.into - c.hearing.count) c.hearing.into c.take.new.buf c.hearing.invariant.within c.in-Ok.ensures.bound in
    record {
      gave = rw all (gave_more _ _ _ _ _ c.hearing.invariant.gave c.in-Ok.ensures.gave);
      within = long c.hearing.count c.in-Ok.more (length c.hearing.into - c.hearing.count) c.hearing.into c.take.new.buf c.hearing.invariant.within c.in-Ok.ensures.bound;
      unfailed = search rules;
      writes_nothing = search rules;
    }

pub returns-in-Err-clause-refused : goal.returns-in-Err-clause-refused
returns-in-Err-clause-refused g c = (
  take c.hearing.count c.hearing.into ++ [],
  gave_more _ _ _ _ _ c.hearing.invariant.gave c.in-Err.ensures.failed,
  inr (refl, subst (λ n. Rose n (g.S.Counted.seen c.take.new.self).faults) c.hearing.invariant.unfailed c.in-Err.ensures.cause.failed),
)

pub returns-in-Ok-eq0-clause-refused : goal.returns-in-Ok-eq0-clause-refused
returns-in-Ok-eq0-clause-refused g c =
    let over : IsAtEnd (g.S.Counted.seen c.take.new.self).content = grind arith in (
      take c.hearing.count c.hearing.into ++ take c.in-Ok-eq0.field-0 c.take.new.buf,
      gave_more _ _ _ _ _ c.hearing.invariant.gave c.in-Ok-eq0.ensures.gave,
      inl (refl, over),
    )
