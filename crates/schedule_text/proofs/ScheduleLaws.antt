-- A text is read as a schedule exactly where it spells it, and refused at a line exactly where that is its
-- first bad one.
use Rattle.std.proofs.Common.{◌≡◌, ℕ, ◌<◌, ◌≤◌, inl, inr, List, [], ◌∷◌, Option, Some, None, Result, Ok, Err, arith, refl, sym, ap, subst}
use Rattle.express_words.specs.declared.settings.Settings.{Settings}
use Rattle.schedule_text.specs.declared.schedule.Event.{Event}
use Rattle.schedule_text.specs.declared.schedule.Event.TheVariants.{Ask, Send, Tick, Deliver, Show, Finish, Inject}
use Rattle.schedule_text.specs.declared.schedule.Header.{Header}
use Rattle.schedule_text.specs.declared.schedule.Schedule.{Schedule}
use Rattle.schedule_text.specs.Grammar.{event_of, header_of, header_then, under, schedule_of_lines, schedule_of}
use Rattle.express_texts.specs.Lines.{lines_of, AreLines}
use Rattle.express_texts.proofs.LineLaws.{lines_found, lines_only}
use Rattle.schedule_text.specs.Lanes.{client_of}
use Rattle.schedule_text.specs.Tables.{IsBelow}
use Rattle.schedule_text.specs.Spelling.{SpellsEvent, SpellsEvents, SpellsHeader, SpellsSchedule, IsFirstBadOf, IsFirstBadLine}
use Rattle.schedule_text.proofs.EventLaws.{event_found}
use Rattle.schedule_text.proofs.HeaderLaws.{header_found, header_only}
use Rattle.schedule_text.proofs.LinesLaws.{HasLanes, events_found, events_only, events_bad, bad_only}

lanes_of : (header : Header) (line : List ℕ) → SpellsHeader header line → HasLanes header.settings
lanes_of header line h = let limits = header.settings.limits in (omega (arith, limits.2.0), omega (arith, limits.2.1))

no_header : (line : List ℕ) → header_of line ≡ None → (header : Header) → SpellsHeader header line → ⊥
no_header line none header spelled = let some = header_only line header spelled in cc

no_header_of : (line : List ℕ) (r : Option Header) → header_of line ≡ r
    → ((header : Header) → SpellsHeader header line → ⊥) → header_of line ≡ None
no_header_of line None is none = is
no_header_of line (Some header) is none = absurd (none header (header_found line header is))

under_found : (header : Header) (r : Result (List Event) ℕ) (schedule : Schedule)
    → under header r ≡ Ok schedule
    → (r ≡ Ok schedule.events) × (header ≡ schedule.header)
under_found header (Ok events) schedule h = (cc, cc)
under_found header (Err bad) schedule h = cc

under_bad : (header : Header) (r : Result (List Event) ℕ) (bad : ℕ) → under header r ≡ Err bad → r ≡ Err bad
under_bad header (Ok events) bad h = cc
under_bad header (Err other) bad h = cc

pub schedule_found : (text : List ℕ) (schedule : Schedule) → schedule_of text ≡ Ok schedule
    → SpellsSchedule schedule text
unfolding schedule_of_lines
schedule_found text schedule h = at_lines (lines_of text) (lines_found text) h
  where
    at_header : (first : List ℕ) (lines : List (List ℕ)) → AreLines (first ∷ lines) text
        → (r : Option Header) → header_of first ≡ r → header_then r lines ≡ Ok schedule
        → SpellsSchedule schedule text
    at_header first lines are None e k = cc
    at_header first lines are (Some header) e k =
        let u = under_found header _ schedule k in
        let head = header_found first header e in
        let r = events_found header.settings [] lines schedule.events (lanes_of header first head)
        (omega arith) u.0 in
        let spelled : SpellsEvents header.settings [] schedule.events lines =
        subst (λ (es : List Event). SpellsEvents header.settings [] es lines) r.split r.spelled in (
          first,
          lines,
          are,
          subst (λ (x : Header). SpellsHeader x first) u.1 head,
          subst (λ (x : Header). SpellsEvents x.settings [] schedule.events lines) u.1 spelled,
          r.few,
        )

    at_lines : (lines : List (List ℕ)) → AreLines lines text → schedule_of_lines lines ≡ Ok schedule
        → SpellsSchedule schedule text
    at_lines [] are k = cc
    at_lines (first ∷ lines) are k = at_header first lines are (header_of first) refl k

pub schedule_only : (text : List ℕ) (schedule : Schedule) → SpellsSchedule schedule text
    → schedule_of text ≡ Ok schedule
unfolding schedule_of_lines
schedule_only text schedule (first, lines, are, head, events, few) =
    rw (
      lines_only (first ∷ lines) text are,
      header_only first schedule.header head,
      events_only schedule.header.settings [] schedule.events lines (lanes_of schedule.header first head)
          (omega (arith, few)) events,
    ) refl

pub bad_found : (text : List ℕ) (n : ℕ) → schedule_of text ≡ Err n → IsFirstBadLine n text
unfolding schedule_of_lines
bad_found text n h = at_lines (lines_of text) (lines_found text) h
  where
    at_header : (first : List ℕ) (lines : List (List ℕ)) → (r : Option Header) → header_of first ≡ r
        → header_then r lines ≡ Err n → IsFirstBadOf n (first ∷ lines)
    at_header first lines None e k = inl (cc, no_header first e)
    at_header first lines (Some header) e k =
        let head = header_found first header e in
        let r = events_bad header.settings [] n lines (lanes_of header first head) (omega arith)
        (under_bad header _ n k) in
        inr (
          header,
          head,
          record {
            before =
                r.before;
            line = r.line;
            behind = r.behind;
            split = r.split;
            events = r.events;
            spelled = r.spelled;
            few = r.few;
            bad = r.cause;
            place = r.place;
          },
        )

    at_lines : (lines : List (List ℕ)) → AreLines lines text → schedule_of_lines lines ≡ Err n
        → IsFirstBadLine n text
    at_lines [] are k = ([], are, cc)
    at_lines (first ∷ lines) are k = (first ∷ lines, are, at_header first lines (header_of first) refl k)

pub bad_is_first : (text : List ℕ) (n : ℕ) → IsFirstBadLine n text → schedule_of text ≡ Err n
unfolding schedule_of_lines
bad_is_first text n ([], are, is) = rw (lines_only [] text are) (ap Err (sym is))
bad_is_first text n (first ∷ lines, are, inl (is, none)) =
    rw (lines_only (first ∷ lines) text are, no_header_of first (header_of first) refl none) (ap Err (sym is))
bad_is_first text n (first ∷ lines, are, inr (header, head, r)) =
    rw (
      lines_only (first ∷ lines) text are,
      header_only first header head,
      r.split,
      bad_only header.settings [] r.before r.line r.behind r.events (lanes_of header first head) r.spelled
          (omega (arith, r.few)) r.bad,
    ) (ap Err (sym r.place))

-- ---- what the code needs

pub header_lanes : (line : List ℕ) (header : Header) → header_of line ≡ Some header
    → (0 < header.settings.lanes) × (header.settings.lanes ≤ 256)
header_lanes line header is =
    let limits = header.settings.limits in (omega (arith, limits.2.0), limits.2.1)

below_lanes : (settings : Settings) (event : Event) (line : List ℕ) → settings.lanes ≤ 256
    → SpellsEvent settings event line → IsBelow 256 (client_of event)
below_lanes settings (Ask client asked) line few h = omega (arith, few, h.0)
below_lanes settings (Send client) line few h = omega (arith, few, h.0)
below_lanes settings Tick line few h = tt
below_lanes settings (Deliver number) line few h = tt
below_lanes settings (Show number) line few h = tt
below_lanes settings (Finish client) line few h = omega (arith, few, h.0)
below_lanes settings (Inject server bytes) line few h = tt

pub client_below : (settings : Settings) (line : List ℕ) (event : Event) → 0 < settings.lanes
    → settings.lanes ≤ 256
    → event_of settings line ≡ Some event → IsBelow 256 (client_of event)
client_below settings line event some few is =
    below_lanes settings event line few (event_found settings line event some (omega (arith, few)) is)
