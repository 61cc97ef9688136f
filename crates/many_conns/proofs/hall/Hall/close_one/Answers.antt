use Rattle.std.proofs.Common.{sym, ◌∙◌}
use Rattle.many_conns.proofs.PlaceLaws.{closes_at, closed_served}
use Rattle.many_conns.proofs.hall.Hall.close_one.Goals as goal

pub returns-clause-leads : goal.returns-clause-leads
returns-clause-leads g c =
    closes_at _ _ _ _ _ _ _ _ _ _ _ _ _ _ _ _ (sym c.self.view_is) c.requires.nothing_owed c.requires.there
    c.index_mut-slot.ensures.value (sym c.is_live.ensures ∙ c.if-not-is_live.false)
    (sym c.is_over.ensures ∙ c.if-not-is_over.false) c.close.ensures c.close-2.ensures.told

pub returns-clause-served : goal.returns-clause-served
returns-clause-served g c = λ served.
    closed_served g.S.Answering.rules _ _ _ _ _ _ _ _ _ _ _ _ _ (sym c.self.view_is) c.close.ensures served
