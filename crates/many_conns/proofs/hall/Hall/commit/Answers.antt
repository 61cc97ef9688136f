use Rattle.std.proofs.Common.{sym, ap, ◌∙◌, subst, All, inr}
use Rattle.many_words.specs.Events.{Adds, Logged}
use Rattle.std.specs.Prelude.{min}
use Rattle.many_conns.specs.declared.batch.Budget.{Budget}
use Rattle.many_conns.specs.Batches.{all_taken, admitted, refused, line}
use Rattle.many_conns.specs.Hall.{IsLooked, HasNoFrame}
use Rattle.many_conns.proofs.CommitLaws.{logs_all, fails_all, same_all, taken_looked, on_err, on_ok, none_of, empty_of}
use Rattle.many_conns.proofs.BatchLaws.{nothing_waits}
use Rattle.many_conns.proofs.hall.Hall.commit.Goals as goal

pub returns-then-is_empty-clause-leads : goal.returns-then-is_empty-clause-leads
returns-then-is_empty-clause-leads g c =
    same_all _ _ _ _ _ _ _ _ _ _ _ _ _ _ (sym c.self.view_is) c.requires.nothing_owed c.fill-refused.ensures.room
    (sym c.entries.ensures ∙ empty_of c.entries.result.now c.if-is_empty.ensures)

pub returns-then-is_empty-clause-served : goal.returns-then-is_empty-clause-served
returns-then-is_empty-clause-served g c =
    let rules = g.S.Answering.rules in
    inr (
      sym c.entries.ensures ∙ empty_of c.entries.result.now c.if-is_empty.ensures,
      subst (All (HasNoFrame rules.whole)) c.deref.ensures.value
          (nothing_waits rules c.self.inside.server rules.is_dear _ c.self.inside.turn c.deref.result.now
          (sym c.fill-refused.ensures.entries ∙ (sym c.entries.ensures ∙ empty_of c.entries.result.now c.if-is_empty.ensures))
          (sym c.fill-refused.ensures.refused ∙ none_of c.fill-refused.result c.if-is_none.ensures)),
    )

pub returns-then-is_err-clause-leads : goal.returns-then-is_err-clause-leads
returns-then-is_err-clause-leads g c =
    fails_all _ _ _ _ _ _ _ _ _ _ _ _ _ _ _ (sym c.self.view_is) c.requires.nothing_owed
    (ap (λ b. b.room) c.begin.ensures ∙ c.fill-refused.ensures.room) (ap (λ b. b.entries) c.begin.ensures)
    (on_err c.log.result c.log.ensures.failed c.if-is_err.ensures.value)

pub returns-clause-leads : goal.returns-clause-leads
returns-clause-leads g c =
    let rules = g.S.Answering.rules in
    let server = c.self.inside.server in
    let left : Budget = record { frames = c.self.inside.batch.room; clients = rules.room server; dear = c.self.inside.dear } in
    logs_all _ _ _ _ _ _ _ _ _ _ _ _ _ _ _ _ _ _ (sym c.self.view_is) c.requires.nothing_owed c.requires.unserved
    c.fill-refused.ensures.room
    (c.fill-refused.ensures.entries ∙ ap (λ k. admitted rules.is_dear left (line rules server c.self.inside.turn k)) c.deref.ensures.value)
    (c.fill-refused.ensures.refused ∙ ap (λ k. refused rules.is_dear left (line rules server c.self.inside.turn k)) c.deref.ensures.value)
    c.unwrap_or-self-inside.ensures
    (c.take_all.ensures ∙ ap (λ k. all_taken c.self.inside.now k c.self.inside.places.items) c.entries-3.ensures)
    (subst (λ k. Adds (g.H.Hub.told c.args.hub.now) (g.H.Hub.told c.log.new.self) (Logged k)) c.entries-2.ensures
    (on_ok c.log.result c.log.ensures.logged c.if-is_err.ensures.value))

pub returns-clause-looked : goal.returns-clause-looked
returns-clause-looked g c =
    subst (All IsLooked) (sym c.take_all.ensures)
    (taken_looked c.self.inside.now c.entries-3.result.now c.self.inside.places.items (subst (λ h. All IsLooked h.places) (sym c.self.view_is) c.requires.looked))

pub returns-then-is_err-clause-breaks_off : goal.returns-then-is_err-clause-breaks_off
returns-then-is_err-clause-breaks_off g c = record {
  before = c.args.hub.now;
  went_on = g.met.H.Hub.goes_on_none _;
  failed = on_err c.log.result c.log.ensures.fails c.if-is_err.ensures.value;
}

pub returns-clause-goes_on : goal.returns-clause-goes_on
returns-clause-goes_on g c = on_ok c.log.result c.log.ensures.goes_on c.if-is_err.ensures.value
