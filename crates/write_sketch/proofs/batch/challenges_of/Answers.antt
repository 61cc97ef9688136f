use Rattle.std.proofs.Common.{◌≡◌, ℕ, ◌+◌, ◌-◌, ◌%◌, ◌<◌, ◌≤◌, length, get_or, length-set, sym, ◌∙◌, ap, arith}
use Rattle.std.proofs.lemmas.List.{take_all}
use Rattle.chacha_expand.specs.Challenges.{challenge_at}
use Rattle.audit_rules.specs.Challenges.{challenge_rs, challenge_ss}
use Rattle.audit_rules.proofs.ChallengeLemmas.{length-challenge_rs, length-challenge_ss, r_at, s_at}
use Rattle.write_sketch.proofs.Filling.{one_more}
use Rattle.write_sketch.proofs.batch.challenges_of.Goals as goal

pub loop-i-preserved : goal.loop-i-preserved
loop-i-preserved c =
    let places = c.args.addresses.now in
    let key = c.args.ckey.now in
    let i = c.loop-i.i in
    let before = c.loop-i.invariant in
    let rs = challenge_rs key places in
    let ss = challenge_ss key places in
    let there : i < length places = omega (arith, c.requires, c.loop-i-test.true) in
    let place : i - i % 8 + i % 8 ≡ i = omega arith in
    let pair : get_or c.refresh.new.eight (i % 8) (0, 0) ≡ challenge_at key (get_or places i 0) =
    c.refresh.ensures.held (i % 8) (omega arith) (omega arith) ∙ ap (λ (n : ℕ). challenge_at key (get_or places n 0)) place in
    let r = (get_or c.refresh.new.eight (i % 8) (0, 0)).0 in
    let s = (get_or c.refresh.new.eight (i % 8) (0, 0)).1 in
    let r_is : r ≡ get_or rs i 0 = ap (λ (p : ℕ × ℕ). p.0) pair ∙ sym (r_at key places i there) in
    let s_is : s ≡ get_or ss i 0 = ap (λ (p : ℕ × ℕ). p.1) pair ∙ sym (s_at key places i there) in
    record {
      held = λ more j h inside.
          let same : i + 1 - (i + 1) % 8 ≡ i - i % 8 = omega arith in
          rw same (c.refresh.ensures.held j h (omega arith));
      length_rs = length-set c.loop-i.rs i r ∙ before.length_rs;
      length_ss = length-set c.loop-i.ss i s ∙ before.length_ss;
      rs = one_more c.loop-i.rs rs i r (omega (arith, before.length_rs, c.loop-i-test.true)) (omega (arith, length-challenge_rs key places)) before.rs r_is;
      ss = one_more c.loop-i.ss ss i s (omega (arith, before.length_ss, c.loop-i-test.true)) (omega (arith, length-challenge_ss key places)) before.ss s_is;
    }

pub returns-clause-r : goal.returns-clause-r
returns-clause-r c =
    let i = c.loop-i.i in
    let found = c.loop-i.rs in
    let rs = challenge_rs c.args.ckey.now c.args.addresses.now in
    let all : length found ≤ i = omega (arith, c.loop-i-test.false, c.loop-i.invariant.length_rs) in
    let whole : length rs ≤ i = omega (arith, c.loop-i-test.false, c.requires, length-challenge_rs c.args.ckey.now c.args.addresses.now) in
    sym (take_all i found all) ∙ c.loop-i.invariant.rs ∙ take_all i rs whole

pub returns-clause-s : goal.returns-clause-s
returns-clause-s c =
    let i = c.loop-i.i in
    let found = c.loop-i.ss in
    let ss = challenge_ss c.args.ckey.now c.args.addresses.now in
    let all : length found ≤ i = omega (arith, c.loop-i-test.false, c.loop-i.invariant.length_ss) in
    let whole : length ss ≤ i = omega (arith, c.loop-i-test.false, c.requires, length-challenge_ss c.args.ckey.now c.args.addresses.now) in
    sym (take_all i found all) ∙ c.loop-i.invariant.ss ∙ take_all i ss whole
