use Rattle.std.proofs.Common.{◌≡◌, ◌∙◌, sym, ap, refl, add-one}
use Rattle.dpf_rules.specs.Walk.{state_at, right_of}
use Rattle.dpf_rules.specs.Expansion.{with_bit}
use Rattle.dpf_keys.proofs.WalkLemmas.{from_bool_lt}
use Rattle.dpf_keys.proofs.walking.walk.Goals as goal

pub loop-level-init : goal.loop-level-init
unfolding state_at
loop-level-init c = c.with_bit-state.ensures ∙ ap (with_bit c.args.root) c.from.ensures

pub loop-level-preserved : goal.loop-level-preserved
unfolding state_at
loop-level-preserved c =
    let right : c.from-right.result ≡ right_of c.args.part.now c.loop-level.level = c.from-right.ensures ∙ sym c.right.ensures in
    rw add-one (cc right)

pub step-state-requires : goal.step-state-requires
step-state-requires c = record {
  raw = rw (← c.children.ensures.left, ← c.children.ensures.right) refl;
  bit = rw c.from-right.ensures (from_bool_lt c.right.result);
  side_bound = c.side_at-side.ensures.bound;
}
