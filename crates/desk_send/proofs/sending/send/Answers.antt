use Rattle.std.proofs.Common.{inl, inr, refl}
use Rattle.std.proofs.lemmas.Result.{IfErr-weaker, IfOk-weaker}
use Rattle.desk_send.proofs.SendLaws.{read_as}
use Rattle.desk_send.proofs.TroubleLaws.{passed_on}
use Rattle.desk_send.proofs.sending.send.Goals as goal

pub returns-clause-done : goal.returns-clause-done
returns-clause-done g c =
    IfOk-weaker c.leave-end.result _ _
    (λ end leaves. record {
      card = c.in_ok-card.card;
      is_card = c.in_ok-card.ensures.card;
      text = c.deref-2.result.now;
      is_text = read_as g.P.Paper.Counted.seen g.S.Counted.seen c.args.file _ _ _ _ _
          c.leave-end.ensures.input
          c.deref-2.ensures.value c.in_ok-text.ensures.text;
      leaves = leaves;
    })
    c.leave-end.ensures.done

pub returns-in_err-card-clause-in_part : goal.returns-in_err-card-clause-in_part
returns-in_err-card-clause-in_part g c =
    passed_on _ c.in_err-card.field-0.0 _ c.from_residual.ensures.1 (inl refl)

pub returns-in_err-text-clause-in_part : goal.returns-in_err-text-clause-in_part
returns-in_err-text-clause-in_part g c =
    passed_on _ c.in_err-text.field-0.0 _ c.from_residual-in_err-text.ensures.1 (inl refl)

pub returns-in_err-check_text-clause-in_part : goal.returns-in_err-check_text-clause-in_part
returns-in_err-check_text-clause-in_part g c =
    passed_on _ c.in_err-check_text.field-0.0 _ c.from_residual-in_err-check_text.ensures.1 (inl refl)

pub returns-clause-in_part : goal.returns-clause-in_part
returns-clause-in_part g c =
    IfErr-weaker c.leave-end.result _ _
    (λ t part. inr (
      c.in_ok-card.card,
      c.deref-2.result.now,
      c.in_ok-card.ensures.card,
      read_as g.P.Paper.Counted.seen g.S.Counted.seen c.args.file _ _ _ _ _ c.leave-end.ensures.input
          c.deref-2.ensures.value c.in_ok-text.ensures.text,
      part,
    ))
    c.leave-end.ensures.in_part
