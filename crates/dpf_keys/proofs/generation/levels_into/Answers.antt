use Rattle.std.proofs.Common.{◌≡◌, ◌∙◌, ap, arith, refl}
use Rattle.dpf_rules.specs.Bytes.{bytes_of, words_bytes, bits_number}
use Rattle.dpf_rules.specs.Keys.{path_at, path_word, path_right, raw_pair}
use Rattle.dpf_rules.proofs.KeysLemmas.{path_right_lt}
use Rattle.dpf_keys.proofs.LevelLemmas.{word_on_path, right_on_path, next0_on_path, next1_on_path, words_more, bits_more, levels_end}
use Rattle.dpf_keys.proofs.generation.levels_into.Goals as goal

pub loop-level-init : goal.loop-level-init
unfolding path_at words_bytes bits_number
loop-level-init c = record { state0 = c.with_bit-state0.ensures; state1 = c.with_bit-state1.ensures; words = refl; rights = refl }

pub overflow_add-rights : goal.overflow_add-rights
overflow_add-rights c =
    let inv = c.loop-level.invariant in
    let pair0 : c.children-pair0.result ≡ raw_pair c.loop-level.state0 = rw (← c.children-pair0.ensures.left, ← c.children-pair0.ensures.right) refl in
    let pair1 : c.children-pair1.result ≡ raw_pair c.loop-level.state1 = rw (← c.children-pair1.ensures.left, ← c.children-pair1.ensures.right) refl in
    let bit = right_on_path c.args.target c.args.root0 c.args.root1 c.loop-level.level _ _ _ _ _ _ _ inv.state0 inv.state1 pair0 pair1
    c.side_at-side.ensures.value c.level_word-word.ensures c.level_right-right.ensures.value in
    omega (
      arith,
      (bits_more (path_right c.args.target c.args.root0 c.args.root1) c.loop-level.level c.loop-level.rights c.level_right-right.result
          (path_right_lt c.args.target c.args.root0 c.args.root1) (omega arith) inv.rights bit).1,
    )

pub loop-level-preserved : goal.loop-level-preserved
loop-level-preserved c =
    let inv = c.loop-level.invariant in
    let target = c.args.target in
    let root0 = c.args.root0 in
    let root1 = c.args.root1 in
    let i = c.loop-level.level in
    let pair0 : c.children-pair0.result ≡ raw_pair c.loop-level.state0 = rw (← c.children-pair0.ensures.left, ← c.children-pair0.ensures.right) refl in
    let pair1 : c.children-pair1.result ≡ raw_pair c.loop-level.state1 = rw (← c.children-pair1.ensures.left, ← c.children-pair1.ensures.right) refl in
    let side = c.side_at-side.ensures.value in
    let word = c.level_word-word.ensures in
    let right = c.level_right-right.ensures.value in
    record {
      state0 = c.step-state0.ensures ∙ next0_on_path target root0 root1 i _ _ _ _ _ _ _ inv.state0 inv.state1 pair0 pair1 side word right;
      state1 = c.step-state1.ensures ∙ next1_on_path target root0 root1 i _ _ _ _ _ _ _ inv.state0 inv.state1 pair0 pair1 side word right;
      words = words_more (path_word target root0 root1) i _ c.loop-level.out c.write_number.new.out inv.words
          (c.write_number.ensures ∙ ap (bytes_of 16) (word_on_path target root0 root1 i _ _ _ _ _ _ _ inv.state0 inv.state1 pair0 pair1 side word right))
          (omega arith);
      rights = (bits_more (path_right target root0 root1) i c.loop-level.rights c.level_right-right.result
          (path_right_lt target root0 root1) (omega arith) inv.rights
          (right_on_path target root0 root1 i _ _ _ _ _ _ _ inv.state0 inv.state1 pair0 pair1 side word right)).0;
    }

pub returns-clause-bytes : goal.returns-clause-bytes
returns-clause-bytes c =
    let full : c.loop-level.level ≡ 128 = omega arith in
    levels_end c.loop-level.out c.write_number-2.new.out _ _ (omega arith)
    (rw full at c.loop-level.invariant.words)
    (c.write_number-2.ensures ∙ ap (bytes_of 16) (rw full at c.loop-level.invariant.rights))
