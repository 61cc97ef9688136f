use Rattle.std.proofs.Common.{arith, ap, sym, ◌∙◌, ◌≡◌, [], length, List, ℕ}
use Rattle.std.proofs.lemmas.List.{length_push}
use Rattle.std.proofs.lemmas.Grind.{common_steps}
use Rattle.schedule_text.specs.Grammar.{events_from}
use Rattle.express_texts.specs.Lines.{lines_of}
use Rattle.express_texts.proofs.LineLemmas.{empty_from}
use Rattle.schedule_text.proofs.TextLemmas.{events_from_next, events_from_bad, events_from_full}
use Rattle.schedule_text.proofs.reader.read_events.Goals as goal

pub returns-then-len-eq-MOST_EVENTS : goal.returns-then-len-eq-MOST_EVENTS
returns-then-len-eq-MOST_EVENTS c =
    let counted : c.len.result ≡ length c.loop-rest.events.items = omega arith in
    sym c.loop-rest.invariant.same
    ∙ rw (c.first_line.ensures.lines, counted) (events_from_full _ _ _ _ (omega arith))

pub returns-in-None : goal.returns-in-None
returns-in-None c =
    let counted : c.len.result ≡ length c.loop-rest.events.items = omega arith in
    let none = sym (sym c.in-None.is ∙ c.in_ok-event_after.ensures.event _ c.loop-rest.invariant.table) in
    sym c.loop-rest.invariant.same ∙ rw (c.first_line.ensures.lines, counted) (events_from_bad _ _ _ _ none)

pub loop-rest-preserved : goal.loop-rest-preserved
loop-rest-preserved c =
    let pushed = c.in_ok-push-in-Some.ensures.items in
    let some = sym (sym c.in-Some.is ∙ c.in_ok-event_after.ensures.event _ c.loop-rest.invariant.table) in
    record {
      same =
          rw pushed
          (sym (events_from_next c.args.settings.now c.loop-rest.events.items _ _ c.in-Some.event
          (omega arith) some)
          ∙ ap (λ (ls : List (List ℕ)). events_from c.args.settings.now c.loop-rest.events.items ls)
          (sym c.first_line.ensures.lines)
          ∙ c.loop-rest.invariant.same);
      few = rw pushed (rw length_push (omega arith));
      table = rw pushed (rw c.in-Some.is at
          (c.in_ok-event_after.ensures.lanes _ c.loop-rest.invariant.table));
    }

pub returns : goal.returns
unfolding lines_of events_from
returns c =
    let all_read : c.loop-rest.rest.now ≡ [] = empty_from _ (grind (arith, common_steps)) in
    sym c.loop-rest.invariant.same
    ∙ ap (λ (t : List ℕ). events_from c.args.settings.now c.loop-rest.events.items (lines_of t)) all_read
