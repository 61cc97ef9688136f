use Rattle.std.proofs.Common.{◌≡◌, ◌∙◌, sym, ap, add-one, get_or}
use Rattle.dpf_rules.specs.Expansion.{with_bit}
use Rattle.dpf_rules.specs.Walk.{right_of, side_at}
use Rattle.dpf_rules.specs.Keys.{Expansions, pair_at, on_side}
use Rattle.dpf_rules.specs.Ideal.{given_at}
use Rattle.write_hiding.specs.Choices.{plain_choice}
use Rattle.write_hiding.proofs.audit.other_end.Goals as goal

pub loop-level-init : goal.loop-level-init
unfolding given_at
loop-level-init c = c.with_bit-state.ensures ∙ ap (with_bit c.args.choice.now.other_root) c.from.ensures

pub loop-level-preserved : goal.loop-level-preserved
unfolding given_at
loop-level-preserved c =
    let i = c.loop-level.level in
    let e : Expansions = (plain_choice c.args.choice.now).other in
    let right : c.from-right.result ≡ right_of c.args.part.now i = c.from-right.ensures ∙ sym c.right.ensures in
    let raw : c.on_side-raw.result ≡ on_side (pair_at e i) (side_at c.args.target i) =
    c.on_side-raw.ensures ∙ ap (λ xs. on_side (get_or xs i (0, 0)) c.side_at-side.result) c.as_slice.ensures
    ∙ ap (on_side (pair_at e i)) c.side_at-side.ensures.value in
    rw (add-one i) (cc (right, raw))
