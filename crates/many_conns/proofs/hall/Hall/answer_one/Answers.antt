use Rattle.std.proofs.Common.{sym, ap, ◌∙◌, length, subst, ◌<◌, ◌≡◌, get_or, All}
use Rattle.many_conns.specs.Hall.{IsLooked}
use Rattle.many_conns.specs.Rules.{after_noted}
use Rattle.many_conns.proofs.HandleLaws.{handles_first, handled_looked, says_of}
use Rattle.many_conns.proofs.ListLaws.{drop-next}
use Rattle.many_conns.proofs.hall.Hall.answer_one.Goals as goal

pub returns-clause-leads : goal.returns-clause-leads
returns-clause-leads g c =
    let rules = g.S.Answering.rules in
    let entry = c.in-Some.entry.now in
    let lookup = c.in-Some.ensures.lookup in
    let entries = c.entries.ensures in
    handles_first _ _ _ _ _ _ _ _ _ _ _ _ _ _ entry _ _ _ _ _ _ (sym c.self.view_is)
    (drop-next c.self.inside.batch.entries c.self.inside.answered entry
    (subst (λ k. c.self.inside.answered < length k) entries lookup.3.0)
    (subst (λ k. entry ≡ get_or k c.self.inside.answered entry) entries lookup.1))
    c.door-door.ensures c.place-place.ensures
    (says_of rules c.self.inside.server _ entry _ _ _ c.step-said.ensures.says c.door-door.ensures c.frame.ensures c.record.ensures)
    c.route-send.ensures.sends c.route-send.ensures.places
    (c.step-said.ensures.after ∙ ap (after_noted rules c.self.inside.server) c.record.ensures)
    c.deliver.ensures.delivers

pub returns-clause-looked : goal.returns-clause-looked
returns-clause-looked g c = λ looked.
    subst (All IsLooked) (sym c.route-send.ensures.places)
    (handled_looked _ _ _ _ _ (subst (λ h. All IsLooked h.places) (sym c.self.view_is) looked))
