use Rattle.std.proofs.Common.{◌≡◌, ◌∙◌, ◌∷◌, ◌++◌, [], map, sym, ap, refl, get_or, arith}
use Rattle.std.specs.List.{range_with_len}
use Rattle.std.proofs.lemmas.List.FromFn.{map-range_with_len_more}
use Rattle.dpf_rules.specs.Expansion.{with_bit}
use Rattle.dpf_rules.specs.Walk.{right_of, state_at}
use Rattle.dpf_rules.specs.Keys.{Expansions, pair_at, raw_pair}
use Rattle.write_hiding.specs.Choices.{plain_choice}
use Rattle.write_hiding.specs.Moved.{moved_at}
use Rattle.write_hiding.proofs.MoveLemmas.{pair_on_walk, next_on_walk}
use Rattle.write_hiding.proofs.expansions.moved_levels.Goals as goal

pub loop-level-init : goal.loop-level-init
unfolding state_at
loop-level-init c = record {
  state = c.with_bit-state.ensures ∙ ap (with_bit c.args.choice.now.own_root) c.from.ensures;
  pairs = c.in_ok-pairs.ensures.items;
}

pub loop-level-preserved : goal.loop-level-preserved
loop-level-preserved c =
    let inv = c.loop-level.invariant in
    let e : Expansions = (plain_choice c.args.choice.now).other in
    let part = c.args.part.now in
    let viewer = c.args.choice.now.viewer in
    let root = c.args.choice.now.own_root in
    let from = c.args.from in
    let to = c.args.to in
    let i = c.loop-level.level in
    let right : c.from-right.result ≡ right_of part i = c.from-right.ensures ∙ sym c.right.ensures in
    let raw : c.children-raw.result ≡ raw_pair c.loop-level.state = rw (← c.children-raw.ensures.left, ← c.children-raw.ensures.right) refl in
    let pair : get_or c.as_slice.result.now i (0, 0) ≡ pair_at e i = ap (λ xs. get_or xs i (0, 0)) c.as_slice.ensures in
    let made : c.moved_pair.result ≡ moved_at part viewer root e from to i =
    c.moved_pair.ensures ∙ pair_on_walk part viewer root e from to i _ _ _ _ _ _ _ inv.state c.word-word.ensures right raw pair c.side_at.ensures.value c.side_at-side.ensures.value in
    record {
      state = c.step-state.ensures
          ∙ next_on_walk part viewer root e from to i _ _ _ _ _ _ _ inv.state c.word-word.ensures right raw pair c.side_at.ensures.value c.side_at-side.ensures.value;
      pairs = c.in_ok-push.ensures.items ∙ ap (λ xs. xs ++ (c.moved_pair.result ∷ [])) inv.pairs
          ∙ ap (λ p. map (moved_at part viewer root e from to) (range_with_len 0 i) ++ (p ∷ [])) made
          ∙ sym (map-range_with_len_more (moved_at part viewer root e from to) 0 i i (omega arith));
    }

pub returns-clause-pairs : goal.returns-clause-pairs
returns-clause-pairs c =
    let full : c.loop-level.level ≡ 128 = omega arith in
    rw full at c.loop-level.invariant.pairs
