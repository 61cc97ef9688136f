use Rattle.std.proofs.Common.{Option, Some, None, sym, ap, ◌∙◌}
use Rattle.frame_rules.specs.Frames.{plain_body}
use Rattle.leader_core.specs.declared.issued.CommandOrder.{CommandOrder}
use Rattle.leader_core.specs.declared.issued.CommandOrder.TheVariants as order
use Rattle.leader_core.specs.State.{leader_in}
use Rattle.leader_core.proofs.OrderLemmas.{ordered, others_fit, refuses_fit}
use Rattle.leader_core.proofs.stores.LeaderStores.apply.Goals as goal

pub returns-in-Some-clause-fits : goal.returns-in-Some-clause-fits
returns-in-Some-clause-fits c f issued =
    refuses_fit (leader_in c.args.self.now) f (plain_body c.args.said.now) c.args.command.now.order c.in-Some.refusal _ issued.order (sym c.refusal_in.ensures ∙ c.in-Some.is) ∙ c.refuse.ensures.fits f issued

pub returns-in_default-order-clause-fits : goal.returns-in_default-order-clause-fits
returns-in_default-order-clause-fits c f issued =
    others_fit (leader_in c.args.self.now) f (plain_body c.args.said.now) _ (sym c.refusal_in.ensures ∙ c.in_default.is)
    ∙ ordered (leader_in c.args.self.now) f None _ (plain_body c.args.said.now) (issued.order ∙ c.in_default-order.is)

pub returns-in-Register-clause-fits : goal.returns-in-Register-clause-fits
returns-in-Register-clause-fits c f issued =
    others_fit (leader_in c.args.self.now) f (plain_body c.args.said.now) _ (sym c.refusal_in.ensures ∙ c.in_default.is)
    ∙ (ordered (leader_in c.args.self.now) f (Some (order.Register c.in-Register.address)) _ (plain_body c.args.said.now) (issued.order ∙ (c.in-Some-order.is ∙ ap (λ (o : CommandOrder). let x : Option CommandOrder = Some o in x) c.in-Register.is)) ∙ c.to_register.ensures.fits f issued)

pub returns-in-Begin-clause-fits : goal.returns-in-Begin-clause-fits
returns-in-Begin-clause-fits c f issued =
    others_fit (leader_in c.args.self.now) f (plain_body c.args.said.now) _ (sym c.refusal_in.ensures ∙ c.in_default.is)
    ∙ (ordered (leader_in c.args.self.now) f (Some (order.Begin)) _ (plain_body c.args.said.now) (issued.order ∙ (c.in-Some-order.is ∙ ap (λ (o : CommandOrder). let x : Option CommandOrder = Some o in x) c.in-Begin.is)) ∙ c.to_begin.ensures.fits f issued)

pub returns-in-Audit-clause-fits : goal.returns-in-Audit-clause-fits
returns-in-Audit-clause-fits c f issued =
    others_fit (leader_in c.args.self.now) f (plain_body c.args.said.now) _ (sym c.refusal_in.ensures ∙ c.in_default.is)
    ∙ (ordered (leader_in c.args.self.now) f (Some (order.Audit)) _ (plain_body c.args.said.now) (issued.order ∙ (c.in-Some-order.is ∙ ap (λ (o : CommandOrder). let x : Option CommandOrder = Some o in x) c.in-Audit.is)) ∙ c.to_audit.ensures.fits f issued)

pub returns-in-Settle-clause-fits : goal.returns-in-Settle-clause-fits
returns-in-Settle-clause-fits c f issued =
    others_fit (leader_in c.args.self.now) f (plain_body c.args.said.now) _ (sym c.refusal_in.ensures ∙ c.in_default.is)
    ∙ (ordered (leader_in c.args.self.now) f (Some (order.Settle)) _ (plain_body c.args.said.now) (issued.order ∙ (c.in-Some-order.is ∙ ap (λ (o : CommandOrder). let x : Option CommandOrder = Some o in x) c.in-Settle.is)) ∙ c.to_settle.ensures.fits f issued)

pub returns-in-Read-clause-fits : goal.returns-in-Read-clause-fits
returns-in-Read-clause-fits c f issued =
    others_fit (leader_in c.args.self.now) f (plain_body c.args.said.now) _ (sym c.refusal_in.ensures ∙ c.in_default.is)
    ∙ (ordered (leader_in c.args.self.now) f (Some (order.Read c.in-Read.number)) _ (plain_body c.args.said.now) (issued.order ∙ (c.in-Some-order.is ∙ ap (λ (o : CommandOrder). let x : Option CommandOrder = Some o in x) c.in-Read.is)) ∙ c.to_read.ensures.fits f issued)

pub returns-in-Retire-clause-fits : goal.returns-in-Retire-clause-fits
returns-in-Retire-clause-fits c f issued =
    others_fit (leader_in c.args.self.now) f (plain_body c.args.said.now) _ (sym c.refusal_in.ensures ∙ c.in_default.is)
    ∙ (ordered (leader_in c.args.self.now) f (Some (order.Retire c.in-Retire.number)) _ (plain_body c.args.said.now) (issued.order ∙ (c.in-Some-order.is ∙ ap (λ (o : CommandOrder). let x : Option CommandOrder = Some o in x) c.in-Retire.is)) ∙ c.to_read-in-Retire.ensures.fits f issued)

pub returns-in-Register-clause-audit : goal.returns-in-Register-clause-audit
returns-in-Register-clause-audit c = c.to_register.ensures.audit c.args.command.now.order

pub returns-in-Begin-clause-audit : goal.returns-in-Begin-clause-audit
returns-in-Begin-clause-audit c = c.to_begin.ensures.audit c.args.command.now.order

pub returns-in-Settle-clause-audit : goal.returns-in-Settle-clause-audit
returns-in-Settle-clause-audit c = c.to_settle.ensures.audit c.args.command.now.order

pub returns-in-Read-clause-audit : goal.returns-in-Read-clause-audit
returns-in-Read-clause-audit c = c.to_read.ensures.audit c.args.command.now.order

pub returns-in-Retire-clause-audit : goal.returns-in-Retire-clause-audit
returns-in-Retire-clause-audit c = c.to_read-in-Retire.ensures.audit c.args.command.now.order
