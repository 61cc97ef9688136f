use Rattle.std.proofs.Common.{refl, sym, ◌∙◌}
use Rattle.http_wires.specs.Clients.{More, Next}
use Rattle.http_wires.proofs.client.Client.take.Goals as goal

pub returns-then-is_asking-clause-takes : goal.returns-then-is_asking-clause-takes
returns-then-is_asking-clause-takes g c =
    More (sym c.is_asking.ensures ∙ c.if-is_asking.true) refl c.give.ensures.gives

pub returns-clause-takes : goal.returns-clause-takes
returns-clause-takes g c =
    Next (sym c.is_asking.ensures ∙ c.if-is_asking.false) _ _ c.fill-seen.ensures c.settle.ensures.settles
