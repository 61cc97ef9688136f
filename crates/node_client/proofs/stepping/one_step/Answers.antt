use Rattle.std.proofs.Common.{Err, refl, ap}
use Rattle.node_exchange.proofs.EarlyLaws.{exchange_long}
use Rattle.node_client.proofs.StepLaws.{step_told, err_is, stepped}
use Rattle.node_client.proofs.EarlyLaws.{broken_short}
use Rattle.node_client.proofs.stepping.one_step.Goals as goal

pub returns-in_err-count-clause-step : goal.returns-in_err-count-clause-step
returns-in_err-count-clause-step g c =
    stepped _ _ _ _ _ _ _ _ c.in-Some.server c.in-Some.size _ _ (Err c.in_err-count.field-0.0) c.in-Some.ensures.sent c.in-Some.ensures.written
    c.address_of.ensures c.in_err-count.ensures.calls refl (err_is _ _ c.from_residual.ensures.1) refl

pub returns-in-Next-clause-step : goal.returns-in-Next-clause-step
returns-in-Next-clause-step g c =
    stepped _ _ _ _ _ _ _ _ c.in-Some.server c.in-Some.size _ _ _ c.in-Some.ensures.sent c.in-Some.ensures.written
    c.address_of.ensures c.in_ok-count.ensures.calls c.in-Next.ensures.client (step_told _ _ c.in-Next.ensures.progress) c.in-Next.ensures.message

pub returns-in-Finished-clause-step : goal.returns-in-Finished-clause-step
returns-in-Finished-clause-step g c =
    stepped _ _ _ _ _ _ _ _ c.in-Some.server c.in-Some.size _ _ _ c.in-Some.ensures.sent c.in-Some.ensures.written
    c.address_of.ensures c.in_ok-count.ensures.calls c.in-Finished.ensures.client (step_told _ _ c.in-Finished.ensures.progress) c.in-Finished.ensures.message

pub returns-in-Later-clause-step : goal.returns-in-Later-clause-step
returns-in-Later-clause-step g c =
    stepped _ _ _ _ _ _ _ _ c.in-Some.server c.in-Some.size _ _ _ c.in-Some.ensures.sent c.in-Some.ensures.written
    c.address_of.ensures c.in_ok-count.ensures.calls c.in-Later.ensures.client (step_told _ _ c.in-Later.ensures.progress) c.in-Later.ensures.message

pub returns-in-Ignored-clause-step : goal.returns-in-Ignored-clause-step
returns-in-Ignored-clause-step g c =
    stepped _ _ _ _ _ _ _ _ c.in-Some.server c.in-Some.size _ _ _ c.in-Some.ensures.sent c.in-Some.ensures.written
    c.address_of.ensures c.in_ok-count.ensures.calls c.in-Ignored.ensures.client (step_told _ _ c.in-Ignored.ensures.progress) c.in-Ignored.ensures.message

pub returns-in_err-count-clause-early : goal.returns-in_err-count-clause-early
returns-in_err-count-clause-early g c = λ ends.
    broken_short _ _ _ _ c.in_err-count.field-0.0 _ refl (λ n e. c.in_err-count.ensures.early n (ap Err e)) c.in_err-count.ensures.calls ends

pub returns-in-Next-clause-early : goal.returns-in-Next-clause-early
returns-in-Next-clause-early g c = λ ends. absurd (exchange_long _ _ _ _ tt c.in_ok-count.ensures.calls ends)

pub returns-in-Finished-clause-early : goal.returns-in-Finished-clause-early
returns-in-Finished-clause-early g c = λ ends. absurd (exchange_long _ _ _ _ tt c.in_ok-count.ensures.calls ends)

pub returns-in-Later-clause-early : goal.returns-in-Later-clause-early
returns-in-Later-clause-early g c = λ ends. absurd (exchange_long _ _ _ _ tt c.in_ok-count.ensures.calls ends)

pub returns-in-Ignored-clause-early : goal.returns-in-Ignored-clause-early
returns-in-Ignored-clause-early g c = λ ends. absurd (exchange_long _ _ _ _ tt c.in_ok-count.ensures.calls ends)
