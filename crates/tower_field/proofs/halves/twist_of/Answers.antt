use Rattle.std.proofs.Common.{◌≡◌, ◌-◌, ◌*◌, ◌%◌, ◌^◌, ap, ◌∙◌, sym, arith}
use Rattle.std.proofs.lemmas.Nat.{one_shl}
use Rattle.tower_numbers.specs.Levels.{twist_at}
use Rattle.tower_numbers.proofs.Bounds.{twist_below}
use Rattle.tower_field.proofs.Shifts.{twist_above}
use Rattle.tower_field.proofs.halves.twist_of.Goals as goal

pub returns-then-level-eq1-clause-value : goal.returns-then-level-eq1-clause-value
unfolding twist_at
returns-then-level-eq1-clause-value c = let e : c.args.level - 1 ≡ 0 = omega arith in sym (ap twist_at e)

pub returns-else-level-eq1-clause-value : goal.returns-else-level-eq1-clause-value
returns-else-level-eq1-clause-value c =
    one_shl c.width_of.result 128 (omega arith) ∙ ap (λ w. 2 ^ w) c.width_of.ensures.value ∙ sym (twist_above (c.args.level - 1) (omega arith))

pub returns-else-level-eq1-clause-small : goal.returns-else-level-eq1-clause-small
returns-else-level-eq1-clause-small c =
    let value : (1 * 2 ^ c.width_of.result) % 2 ^ 128 ≡ twist_at (c.args.level - 1) =
    one_shl c.width_of.result 128 (omega arith) ∙ ap (λ w. 2 ^ w) c.width_of.ensures.value ∙ sym (twist_above (c.args.level - 1) (omega arith)) in
    rw value (twist_below (c.args.level - 1))
