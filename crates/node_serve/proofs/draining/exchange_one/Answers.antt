use Rattle.std.proofs.Common.{◌≡◌, ◌<◌, ℕ, List, Option, Ok, Err, refl, sym, subst, ◌∙◌}
use Rattle.express_words.specs.Calls.{Call}
use Rattle.node_exchange.specs.Exchanging.{ExchangeOn}
use Rattle.node_exchange.specs.declared.exchanging.Broken.{Broken}
use Rattle.node_exchange.proofs.EarlyLaws.{IsDecided, exchange_long}
use Rattle.node_restart.specs.declared.server.Core.{Core}
use Rattle.node_serve.specs.Draining.{rounds_of}
use Rattle.node_serve.proofs.ReachLaws.{breaks, replied, refuses}
use Rattle.node_serve.proofs.StepLaws.{ignored_stays, heeded_nearer}
use Rattle.node_serve.proofs.draining.exchange_one.Goals as goal

-- the helper's answer, as it was received
as_received : (peer sent got bytes : List ℕ) (x y : Option (List Call)) → bytes ≡ got → ExchangeOn peer (record { sent = sent; answer = Ok got }) x y → ExchangeOn peer (record { sent = sent; answer = Ok bytes }) x y
as_received peer sent got bytes x y is calls = subst (λ (b : List ℕ). ExchangeOn peer (record { sent = sent; answer = Ok b }) x y) (sym is) calls

pub returns-in-Err-Fault-clause-ends : goal.returns-in-Err-Fault-clause-ends
returns-in-Err-Fault-clause-ends g c = λ first before p r.
    breaks _ _ _ c.args.out.now (Err c.in-Err-Fault.field-0) _ first _ _ before _ _ p g.met.S.Logged.both r c.requires.oldest c.in-Err-Fault.ensures.calls
    (g.met.S.Logged.none c.args.server.now) refl (rw c.in-Err-Fault.field-0-is refl)

pub returns-in-Err-Early-clause-ends : goal.returns-in-Err-Early-clause-ends
returns-in-Err-Early-clause-ends g c = λ first before p r.
    breaks _ _ _ c.args.out.now (Err c.in-Err-Early.field-0) _ first _ _ before _ _ p g.met.S.Logged.both r c.requires.oldest c.in-Err-Early.ensures.calls
    (g.met.S.Logged.none c.args.server.now) refl (rw c.in-Err-Early.field-0-is refl)

pub returns-in-Err-Wrong-clause-ends : goal.returns-in-Err-Wrong-clause-ends
returns-in-Err-Wrong-clause-ends g c = λ first before p r.
    breaks _ _ _ c.args.out.now (Err c.in-Err-Wrong.field-0) _ first _ _ before _ _ p g.met.S.Logged.both r c.requires.oldest c.in-Err-Wrong.ensures.calls
    (g.met.S.Logged.none c.args.server.now) refl (rw c.in-Err-Wrong.field-0-is refl)

pub returns-then-stepped-clause-ends : goal.returns-then-stepped-clause-ends
returns-then-stepped-clause-ends g c = λ first before p r.
    let tells = c.in-Ok-step.ensures.steps in
    let ignored = sym tells.ignored ∙ c.if-stepped.true in
    let bytes = c.of-received.result in
    breaks _ _ _ c.step.new.out (Ok bytes) _ first _ _ before _ _ p g.met.S.Logged.both r c.requires.oldest (as_received _ _ _ bytes _ _ c.of-received.ensures c.in-Ok.ensures.calls)
    c.in-Ok-step.ensures.takes (tells.core_is ∙ ignored_stays _ _ bytes c.requires.oldest ignored) (ignored, refl)

pub returns-else-stepped-clause-ends : goal.returns-else-stepped-clause-ends
returns-else-stepped-clause-ends g c = λ first before p r.
    let tells = c.in-Ok-step.ensures.steps in
    let bytes = c.of-received.result in
    replied _ _ _ _ bytes _ first _ _ before _ _ p g.met.S.Logged.both r (as_received _ _ _ bytes _ _ c.of-received.ensures c.in-Ok.ensures.calls)
    c.in-Ok-step.ensures.takes tells.core_is (sym tells.ignored ∙ c.if-stepped.false) tells.answer

pub returns-else-stepped-clause-nearer : goal.returns-else-stepped-clause-nearer
returns-else-stepped-clause-nearer g c =
    let tells = c.in-Ok-step.ensures.steps in
    let core = g.S.Logged.log.core c.args.server.now in
    subst (λ (x : Core). rounds_of x < rounds_of core) (sym tells.core_is) (heeded_nearer core _ _ c.requires.oldest (sym tells.ignored ∙ c.if-stepped.false))

pub returns-in-Err-clause-ends : goal.returns-in-Err-clause-ends
returns-in-Err-clause-ends g c = λ first before p r.
    let bytes = c.of-received.result in
    refuses _ _ _ c.step.new.out bytes _ first _ _ before _ _ p g.met.S.Logged.halts r c.requires.oldest (as_received _ _ _ bytes _ _ c.of-received.ensures c.in-Ok.ensures.calls)
    c.in-Err.ensures.stops c.in-Err.ensures.no_step

pub returns-in-Err-Wrong-clause-early : goal.returns-in-Err-Wrong-clause-early
returns-in-Err-Wrong-clause-early g c = λ bad ends.
    let decided = subst (λ (why : Broken). IsDecided (Err why)) (sym c.in-Err-Wrong.field-0-is) tt in
    absurd (exchange_long _ _ _ _ decided c.in-Err-Wrong.ensures.calls ends)

pub returns-then-stepped-clause-early : goal.returns-then-stepped-clause-early
returns-then-stepped-clause-early g c = λ bad ends. absurd (exchange_long _ _ _ _ tt c.in-Ok.ensures.calls ends)
