use Rattle.std.proofs.Common.{sym, ◌∙◌}
use Rattle.many_conns.specs.Hall.{IsLooked}
use Rattle.many_conns.proofs.PlaceLaws.{looks_at, looked_at, put_is}
use Rattle.many_conns.proofs.hall.Hall.look_at.Goals as goal

pub returns-clause-leads : goal.returns-clause-leads
returns-clause-leads g c =
    looks_at _ _ _ _ _ _ _ _ _ _ _ _ _ _ _ _ _ (sym c.self.view_is) c.requires.nothing_owed c.requires.there
    c.index_mut-slot.ensures.value (sym c.is_live.ensures ∙ c.if-not-is_live.false) c.look.ensures.looks
