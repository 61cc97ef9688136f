use Rattle.std.proofs.Common.{inl, inr, refl}
use Rattle.std.proofs.lemmas.Result.{IfErr-weaker, IfOk-weaker}
use Rattle.desk_send.proofs.RefusalLaws.{undone_day}
use Rattle.desk_send.proofs.TroubleLaws.{both_ok, passed_on}
use Rattle.desk_send.proofs.sending.begin_anew.Goals as goal

pub returns-clause-begins : goal.returns-clause-begins
returns-clause-begins g c =
    IfOk-weaker c.start_free.result _ _
    (λ sent made. record {
      mid = _;
      makes_way = c.in_ok-make_way.ensures.made;
      starts = made.0;
      drawn = made.1;
      calls = refl;
      written = refl;
    })
    (both_ok c.start_free.result _ _ c.start_free.ensures.starts c.start_free.ensures.left)

pub returns-clause-refused : goal.returns-clause-refused
returns-clause-refused g c =
    IfErr-weaker c.start_free.result _ _ (λ t cause. undone_day c.args.card.now t cause.undone)
    c.start_free.ensures.cause

pub returns-in_err-make_way-clause-refused : goal.returns-in_err-make_way-clause-refused
returns-in_err-make_way-clause-refused g c =
    passed_on _ c.in_err-make_way.field-0.0 _ c.from_residual-in_err-make_way.ensures.1
    (undone_day c.args.card.now _ c.in_err-make_way.ensures.undone)

pub returns-in_err-check_day-clause-in_part : goal.returns-in_err-check_day-clause-in_part
returns-in_err-check_day-clause-in_part g c =
    passed_on _ c.in_err-check_day.field-0.0 _ c.from_residual.ensures.1 (inl refl)

pub returns-in_err-make_way-clause-in_part : goal.returns-in_err-make_way-clause-in_part
returns-in_err-make_way-clause-in_part g c =
    passed_on _ c.in_err-make_way.field-0.0 _ c.from_residual-in_err-make_way.ensures.1
    (inr (inl c.in_err-make_way.ensures.in_part))

pub returns-clause-in_part : goal.returns-clause-in_part
returns-clause-in_part g c =
    IfErr-weaker c.start_free.result _ _ (λ t cause. inr (inr (_, c.in_ok-make_way.ensures.made, refl)))
    c.start_free.ensures.cause
