use Rattle.kept_errands.proofs.TalkLaws.{talked, early_only, early_in}
use Rattle.kept_errands.proofs.talking.talk.Goals as goal

pub returns-clause-talked : goal.returns-clause-talked
returns-clause-talked g c =
    talked _ _ _ _ c.in-Some.server c.in-Some.size _ _ _ c.in-Some.ensures.sent c.in-Some.ensures.written
    c.address_of.ensures c.exchange.ensures.calls

pub returns-clause-early : goal.returns-clause-early
returns-clause-early g c = λ ends.
    early_only _ _ _ _ _ _ (λ n e. c.exchange.ensures.early n (early_in _ _ n e)) c.exchange.ensures.calls ends
