use Rattle.std.proofs.Common.{refl}
use Rattle.settings_text.specs.Values.{list_within}
use Rattle.settings_text.proofs.ListLaws.{within, too_few, too_many}
use Rattle.settings_text.proofs.values.list_within.Goals as goal
use Rattle.settings_text.proofs.values.list_within.Goals.{else-low-values-via-then-low-values+else-values-high, else-low-values-via-else-low-values}

pub returns-then-values-high-clause-value : goal.returns-then-values-high-clause-value
unfolding list_within
returns-then-values-high-clause-value c =
    rw (← c.in_ok-values.ensures, within c.args.low c.args.high c.in_ok-values.values.now c.if-low-values.true c.if-values-high.true) refl

pub returns-else-low-values-clause-value : goal.returns-else-low-values-clause-value
unfolding list_within
returns-else-low-values-clause-value c =
    elim c.else-low-values.branch [
      | else-low-values-via-then-low-values+else-values-high w ↦
          rw (← c.in_ok-values.ensures, too_many c.args.low c.args.high c.in_ok-values.values.now w.if-low-values.true w.if-values-high.false) refl
      | else-low-values-via-else-low-values w ↦
          rw (← c.in_ok-values.ensures, too_few c.args.low c.args.high c.in_ok-values.values.now w.if-low-values.false) refl
    ]
