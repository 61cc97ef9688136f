use Rattle.std.proofs.Common.{inl, inr}
use Rattle.desk_send.proofs.TroubleLaws.{passed_on}
use Rattle.desk_send.proofs.sending.leave.Goals as goal

pub returns-clause-done : goal.returns-clause-done
returns-clause-done g c = record {
  sent = c.in_ok-sent.sent;
  mid = _;
  begun = c.in_ok-sent.ensures.begun;
  letter_end = c.in_ok-end.end;
  comes = c.in_ok-end.ensures.ended;
  ends = c.end_of.ensures;
}

pub returns-in_err-sent-clause-in_part : goal.returns-in_err-sent-clause-in_part
returns-in_err-sent-clause-in_part g c =
    passed_on _ c.in_err-sent.field-0.0 _ c.from_residual.ensures.1
    (inl c.in_err-sent.ensures.in_part)

pub returns-in_err-end-clause-in_part : goal.returns-in_err-end-clause-in_part
returns-in_err-end-clause-in_part g c =
    passed_on _ c.in_err-end.field-0.0 _ c.from_residual-in_err-end.ensures.1
    (inr (record {
      sent = c.in_ok-sent.sent;
      mid = _;
      begun = c.in_ok-sent.ensures.begun;
      stays = c.in_err-end.ensures.stays_open;
    }))
