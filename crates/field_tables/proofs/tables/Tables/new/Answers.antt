use Rattle.std.proofs.Common.{◌≡◌, ◌<◌, ◌+◌, ℕ, get_or, length, set, refl, sym, ◌∙◌, ap, subst, arith, add-one, length-set, get_or-set_other}
use Rattle.tower_numbers.specs.Levels.{product_at}
use Rattle.field_tables.specs.Powers.{power_of}
use Rattle.field_tables.proofs.Logarithms.{power_filled, log_filled, power_apart, zeros_alone}
use Rattle.field_tables.proofs.tables.Tables.new.Goals as goal
use Rattle.field_tables.proofs.tables.Tables.new.Goals.{then-i-lt255, else-i-lt255}

pub loop-i-init : goal.loop-i-init
unfolding power_of
loop-i-init c = record {
  power_length = refl;
  log_length = refl;
  present = refl;
  powers = λ j h. absurd (omega arith);
  zeros = λ j h. zeros_alone 1379 j;
  log_of_zero = refl;
  logs = λ j h k. absurd (omega arith);
}

pub loop-i-preserved : goal.loop-i-preserved
unfolding power_of
loop-i-preserved c =
    let i = c.loop-i.i in
    let before = c.loop-i.invariant in
    let within : i < length c.loop-i.power = subst (λ n. i < n) (sym before.power_length) (omega (arith, c.loop-i-test.true)) in
    record {
      power_length = length-set c.loop-i.power i c.loop-i.x ∙ before.power_length;
      log_length = elim c.if-i-lt255.branch [
        | then-i-lt255 w ↦ ap length w.log-is ∙ length-set c.loop-i.log c.loop-i.x i ∙ before.log_length
        | else-i-lt255 w ↦ ap length w.log-is ∙ before.log_length
      ];
      present = c.times_base-x.ensures ∙ ap (λ x. product_at 3 x 128) before.present ∙ ap power_of (sym (add-one i));
      powers = subst (λ x. (j : ℕ) → j < i + 1 → get_or (set c.loop-i.power i x) j 0 ≡ power_of j) (sym before.present) (power_filled c.loop-i.power i within before.powers);
      zeros = λ j h. get_or-set_other c.loop-i.power i j c.loop-i.x 0 (omega arith) ∙ before.zeros j (omega arith);
      log_of_zero = elim c.if-i-lt255.branch [
        | then-i-lt255 w ↦ ap (λ log. get_or log 0 0) w.log-is ∙ get_or-set_other c.loop-i.log c.loop-i.x 0 i 0 (λ e. power_apart i w.if-i-lt255.true (sym (e ∙ before.present))) ∙ before.log_of_zero
        | else-i-lt255 w ↦ ap (λ log. get_or log 0 0) w.log-is ∙ before.log_of_zero
      ];
      logs = elim c.if-i-lt255.branch [
        | then-i-lt255 w ↦
            subst (λ log. (j : ℕ) → j < i + 1 → j < 255 → get_or log (power_of j) 0 ≡ j) (sym w.log-is)
            (subst (λ x. (j : ℕ) → j < i + 1 → j < 255 → get_or (set c.loop-i.log x i) (power_of j) 0 ≡ j) (sym before.present)
            (log_filled c.loop-i.log i w.if-i-lt255.true before.log_length before.logs))
        | else-i-lt255 w ↦ λ j h k. ap (λ log. get_or log (power_of j) 0) w.log-is ∙ before.logs j (omega (arith, w.if-i-lt255.false)) k
      ];
    }
