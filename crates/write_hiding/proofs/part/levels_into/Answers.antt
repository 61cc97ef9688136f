use Rattle.std.proofs.Common.{◌≡◌, ◌∙◌, ap, arith, refl, get_or}
use Rattle.dpf_rules.specs.Bytes.{bytes_of, words_bytes, bits_number}
use Rattle.dpf_rules.specs.Expansion.{with_bit}
use Rattle.dpf_rules.specs.Keys.{Expansions, pair_at, raw_pair}
use Rattle.dpf_rules.specs.Ideal.{own_at}
use Rattle.dpf_keys.proofs.LevelLemmas.{words_more, bits_more, levels_end}
use Rattle.write_hiding.specs.Choices.{plain_choice}
use Rattle.write_hiding.specs.Levels.{own_word, own_right}
use Rattle.write_hiding.proofs.KeyLemmas.{own_right_lt, word_on_path, right_on_path, next_on_path}
use Rattle.write_hiding.proofs.part.levels_into.Goals as goal

pub loop-level-init : goal.loop-level-init
unfolding own_at words_bytes bits_number
loop-level-init c = record { state = c.with_bit-state.ensures ∙ ap (with_bit c.args.choice.now.own_root) c.from.ensures; words = refl; rights = refl }

pub overflow_add-rights : goal.overflow_add-rights
overflow_add-rights c =
    let inv = c.loop-level.invariant in
    let e : Expansions = (plain_choice c.args.choice.now).other in
    let viewer = c.args.choice.now.viewer in
    let root = c.args.choice.now.own_root in
    let i = c.loop-level.level in
    let own : c.children-own.result ≡ raw_pair c.loop-level.state = rw (← c.children-own.ensures.left, ← c.children-own.ensures.right) refl in
    let other : get_or c.as_slice.result.now i (0, 0) ≡ pair_at e i = ap (λ xs. get_or xs i (0, 0)) c.as_slice.ensures in
    let bit = right_on_path c.args.target viewer root e i _ _ _ _ _ _ inv.state own other
    c.side_at-side.ensures.value c.level_word-word.ensures c.level_right-right.ensures.value in
    omega (
      arith,
      (bits_more (own_right c.args.target viewer root e) i c.loop-level.rights c.level_right-right.result
          (own_right_lt c.args.target viewer root e) (omega arith) inv.rights bit).1,
    )

pub loop-level-preserved : goal.loop-level-preserved
loop-level-preserved c =
    let inv = c.loop-level.invariant in
    let e : Expansions = (plain_choice c.args.choice.now).other in
    let target = c.args.target in
    let viewer = c.args.choice.now.viewer in
    let root = c.args.choice.now.own_root in
    let i = c.loop-level.level in
    let own : c.children-own.result ≡ raw_pair c.loop-level.state = rw (← c.children-own.ensures.left, ← c.children-own.ensures.right) refl in
    let other : get_or c.as_slice.result.now i (0, 0) ≡ pair_at e i = ap (λ xs. get_or xs i (0, 0)) c.as_slice.ensures in
    let side = c.side_at-side.ensures.value in
    let word = c.level_word-word.ensures in
    let right = c.level_right-right.ensures.value in
    record {
      state = c.step-state.ensures ∙ next_on_path target viewer root e i _ _ _ _ _ _ inv.state own other side word right;
      words = words_more (own_word target viewer root e) i _ c.loop-level.out c.write_number.new.out inv.words
          (c.write_number.ensures ∙ ap (bytes_of 16) (word_on_path target viewer root e i _ _ _ _ _ _ inv.state own other side word right))
          (omega arith);
      rights = (bits_more (own_right target viewer root e) i c.loop-level.rights c.level_right-right.result
          (own_right_lt target viewer root e) (omega arith) inv.rights
          (right_on_path target viewer root e i _ _ _ _ _ _ inv.state own other side word right)).0;
    }

pub returns-clause-bytes : goal.returns-clause-bytes
returns-clause-bytes c =
    let full : c.loop-level.level ≡ 128 = omega arith in
    levels_end c.loop-level.out c.write_number-2.new.out _ _ (omega arith)
    (rw full at c.loop-level.invariant.words)
    (c.write_number-2.ensures ∙ ap (bytes_of 16) (rw full at c.loop-level.invariant.rights))

pub returns-clause-end : goal.returns-clause-end
returns-clause-end c =
    let full : c.loop-level.level ≡ 128 = omega arith in
    rw full at c.loop-level.invariant.state
