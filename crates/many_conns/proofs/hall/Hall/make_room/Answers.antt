use Rattle.std.proofs.Common.{◌≡◌, false, sym, subst}
use Rattle.many_conns.specs.Hall.{IsOldestAt}
use Rattle.many_words.specs.Events.{Adds, Dropped}
use Rattle.many_conns.proofs.PlaceLaws.{drops_at, no_frame_of}
use Rattle.many_conns.proofs.hall.Hall.make_room.Goals as goal

pub returns-clause-leads : goal.returns-clause-leads
returns-clause-leads g c =
    let stood : c.index_mut-slot.result.now.asked ≡ false = cc in
    drops_at _ _ _ _ _ _ _ _ _ _ _ _ _ _ _ _ c.args.door _ (sym c.self.view_is) c.requires.nothing_owed
    (subst (λ k. IsOldestAt c.args.door k c.in_ok-place.place) c.deref.ensures.value c.in_ok-place.ensures)
    c.requires.no_peer c.index_mut-slot.ensures.value stood (no_frame_of _ _ _ c.frame.ensures.frame c.if-is_some.ensures) c.index_mut-slot.ensures.value c.vacate.ensures
    (subst (λ t. Adds t (g.H.Hub.told c.drop_for_another.new.self) (Dropped c.in_ok-place.place)) c.knocks.ensures.told c.drop_for_another.ensures.told)
