use Rattle.std.proofs.Common.{◌≡◌, ℕ, ◌+◌, ◌-◌, ◌%◌, ◌<◌, length, get_or, take, refl, sym, ◌∙◌, ap, add-one, arith}
use Rattle.std.specs.Prelude.{bit_xor}
use Rattle.chacha_expand.specs.Challenges.{challenge_at}
use Rattle.audit_rules.specs.Audit.{product, sums_of}
use Rattle.audit_rules.specs.Challenges.{challenge_rs, challenge_ss}
use Rattle.audit_rules.proofs.ChallengeLemmas.{length-challenge_rs, length-challenge_ss, r_at, s_at}
use Rattle.write_sketch.proofs.Prefixes.{sums_more, sums_whole}
use Rattle.write_sketch.proofs.few.few_sums.Goals as goal

pub loop-i-init : goal.loop-i-init
unfolding sums_of
loop-i-init c = record { held = λ none. absurd (omega arith); sums = refl }

pub loop-i-preserved : goal.loop-i-preserved
loop-i-preserved c =
    let w = c.args.states.now in
    let places = c.args.addresses.now in
    let key = c.args.ckey.now in
    let i = c.loop-i.i in
    let before = c.loop-i.sums in
    let rs = challenge_rs key places in
    let ss = challenge_ss key places in
    let inside : i < length w = c.loop-i-test.true in
    let there : i < length places = omega arith in
    let place : i - i % 8 + i % 8 ≡ i = omega arith in
    let pair : get_or c.refresh.new.eight (i % 8) (0, 0) ≡ challenge_at key (get_or places i 0) =
    c.refresh.ensures.held (i % 8) (omega arith) (omega arith) ∙ ap (λ (n : ℕ). challenge_at key (get_or places n 0)) place in
    let r = (get_or c.refresh.new.eight (i % 8) (0, 0)).0 in
    let s = (get_or c.refresh.new.eight (i % 8) (0, 0)).1 in
    let r_is : r ≡ get_or rs i 0 = ap (λ (p : ℕ × ℕ). p.0) pair ∙ sym (r_at key places i there) in
    let s_is : s ≡ get_or ss i 0 = ap (λ (p : ℕ × ℕ). p.1) pair ∙ sym (s_at key places i there) in
    let x = get_or w i 0 in
    record {
      held = λ more j h inside.
          let same : i + 1 - (i + 1) % 8 ≡ i - i % 8 = omega arith in
          rw same (c.refresh.ensures.held j h (omega arith));
      sums = c.with_box-sums.ensures.added
          ∙ ap (λ r. record { x = bit_xor before.x (product x r); y = bit_xor before.y (product x s); m = bit_xor before.m x; z = bit_xor before.z (product (product x r) s) }) r_is
          ∙ ap (λ s. record { x = bit_xor before.x (product x (get_or rs i 0)); y = bit_xor before.y (product x s); m = bit_xor before.m x; z = bit_xor before.z (product (product x (get_or rs i 0)) s) }) s_is
          ∙ sums_more w rs ss i inside (omega (arith, length-challenge_rs key places)) (omega (arith, length-challenge_ss key places)) before c.loop-i.invariant.sums
          ∙ ap (λ n. sums_of (take n w) (take n rs) (take n ss)) (sym (add-one i));
    }

pub returns : goal.returns
returns c =
    let w = c.args.states.now in
    let places = c.args.addresses.now in
    let key = c.args.ckey.now in
    let all : c.loop-i.i ≡ length w = omega (arith, c.loop-i.auto.i-end, c.loop-i-test.false) in
    record {
      sums =
          c.loop-i.invariant.sums
          ∙ sums_whole w (challenge_rs key places) (challenge_ss key places) c.loop-i.i all
          (omega (arith, c.requires, length-challenge_rs key places)) (omega (arith, c.requires, length-challenge_ss key places));
    }
