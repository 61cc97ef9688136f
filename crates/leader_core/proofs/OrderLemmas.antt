-- What a reply does, by the command that it answers.
use Rattle.std.proofs.Common.{◌≡◌, true, false, Option, Some, None, refl, ap, ◌∙◌}
use Rattle.express_words.specs.declared.refusal.Refusal.{Refusal}
use Rattle.frame_rules.specs.Frames as frame
use Rattle.frame_rules.specs.Frames.{PlainFrame, PlainBody}
use Rattle.step_rules.specs.Leader.{Leader, Stage, AckTurn, row_at}
use Rattle.step_rules.specs.LeaderReplies.{by_command, done, fits, if_audited, if_begun, if_read, if_registered, if_settled, registered_in, want_for}
use Rattle.leader_core.specs.declared.issued.CommandOrder.{CommandOrder}
use Rattle.leader_core.specs.declared.issued.CommandOrder.TheVariants as order
use Rattle.leader_core.specs.Commands.{order_in}
use Rattle.leader_core.specs.Replies.{want_of_order}
use Rattle.leader_core.specs.Commands.{is_audit}

module _ (a : Leader) (c : PlainFrame) where
  abbrev by_order : Option CommandOrder → Stage → PlainBody → Option AckTurn
  by_order (Some (order.Register address)) st b = if_registered a c address st (registered_in b)
  by_order (Some order.Begin) st b = if_begun a c st b
  by_order (Some order.Audit) st b = if_audited a c st b
  by_order (Some order.Settle) st b = if_settled a c st b
  by_order (Some (order.Read n)) st b = if_read a c true n b
  by_order (Some (order.Retire n)) st b = if_read a c false n b
  by_order None st b = None

  by_its_order : (command : PlainBody) (st : Stage) (b : PlainBody) → by_command a c command st b ≡ by_order (order_in command) st b
  unfolding by_command
  by_its_order (frame.LinkRegister address) st b = refl
  by_its_order (frame.LinkBegin drawn part) st b = refl
  by_its_order (frame.LinkAudit sigma opened) st b = refl
  by_its_order (frame.LinkSettle own) st b = refl
  by_its_order (frame.LinkRead n) st b = refl
  by_its_order (frame.LinkRetire n) st b = refl
  by_its_order command st b = refl

  pub ordered : (o : Option CommandOrder) (st : Stage) (b : PlainBody) → order_in c.body ≡ o → by_command a c c.body st b ≡ by_order o st b
  ordered o st b e = by_its_order c.body st b ∙ ap (λ (x : Option CommandOrder). by_order x st b) e

want_is : (command : PlainBody) → want_for command ≡ want_of_order (order_in command)
want_is (frame.LinkRegister address) = refl
want_is (frame.LinkBegin drawn part) = refl
want_is (frame.LinkAudit sigma opened) = refl
want_is (frame.LinkSettle own) = refl
want_is (frame.LinkRead n) = refl
want_is (frame.LinkRetire n) = refl
want_is command = refl

pub refuses_fit : (a : Leader) (c : PlainFrame) (b : PlainBody) (o : Option CommandOrder) (r : Refusal) (x : Option Refusal) → order_in c.body ≡ o → x ≡ Some r → fits a c b x ≡ Some (done a c (want_of_order o) (frame.Refused r))
unfolding fits
refuses_fit a c b o r x e some =
    rw some (ap (λ w. Some (done a c w (frame.Refused r))) (want_is c.body ∙ ap want_of_order e))

pub others_fit : (a : Leader) (c : PlainFrame) (b : PlainBody) (x : Option Refusal) → x ≡ None → fits a c b x ≡ by_command a c c.body (row_at a c.lane).stage b
unfolding fits
others_fit a c b x none = rw none refl

pub is_its_audit : (b : PlainBody) → order_in b ≡ Some order.Audit → is_audit b ≡ true
is_its_audit (frame.LinkRegister address) e = absurd (cc e)
is_its_audit (frame.LinkBegin drawn part) e = absurd (cc e)
is_its_audit (frame.LinkAudit sigma opened) e = refl
is_its_audit (frame.LinkSettle own) e = absurd (cc e)
is_its_audit (frame.LinkRead n) e = absurd (cc e)
is_its_audit (frame.LinkRetire n) e = absurd (cc e)
is_its_audit b e = absurd (cc e)
