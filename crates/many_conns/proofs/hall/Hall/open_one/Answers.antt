use Rattle.std.proofs.Common.{sym, ◌∙◌, subst, ◌<◌, length}
use Rattle.many_conns.specs.Hall.{IsAsked}
use Rattle.many_conns.proofs.PlaceLaws.{opens_at, asks_at, new_asked, made_asked, put_is}
use Rattle.many_conns.proofs.hall.Hall.open_one.Goals as goal

pub returns-then-not-open-clause-leads : goal.returns-then-not-open-clause-leads
returns-then-not-open-clause-leads g c =
    asks_at _ _ _ _ _ _ _ _ _ _ _ _ _ _ _ _ _ (sym c.self.view_is) c.requires.nothing_owed c.requires.there
    c.index_mut-slot.ensures.value c.door-door.ensures (sym c.is_free.ensures ∙ c.if-not-is_free.false) c.ask.ensures c.if-not-open.ensures.none

pub returns-clause-leads : goal.returns-clause-leads
returns-clause-leads g c =
    opens_at _ _ _ _ _ _ _ _ _ _ _ _ _ _ _ _ _ _ (sym c.self.view_is) c.requires.nothing_owed c.requires.there
    c.index_mut-slot.ensures.value c.door-door.ensures (sym c.is_free.ensures ∙ c.if-not-is_free.false) c.open-2.ensures c.if-not-open.ensures.opened
    c.resend.ensures.resends

pub returns-then-not-open-clause-asked : goal.returns-then-not-open-clause-asked
returns-then-not-open-clause-asked g c =
    put_is IsAsked c.self.inside.places.items c.args.place c.ask.new.self
    (subst (λ h. c.args.place < length h.places) (sym c.self.view_is) c.requires.there) (made_asked c.index_mut-slot.result.now _ c.ask.ensures)

pub returns-clause-asked : goal.returns-clause-asked
returns-clause-asked g c =
    put_is IsAsked c.self.inside.places.items c.args.place c.open-2.new.self
    (subst (λ h. c.args.place < length h.places) (sym c.self.view_is) c.requires.there) (new_asked _ _ _ c.open-2.ensures)
