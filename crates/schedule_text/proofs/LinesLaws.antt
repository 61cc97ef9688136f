-- Lines one after another give the events that they spell, and the first that gives none is bad.
use Rattle.std.proofs.Common.{◌≡◌, ℕ, ◌+◌, ◌<◌, ◌≤◌, ◌^◌, ◌⊎◌, inl, inr, nat_eq, Bool, true, false, cond, List, [], ◌∷◌, ◌++◌, length, Option, Some, None, Ok, Err, arith, refl, sym, ◌∙◌, ap, subst, append_assoc, append-nil, length-append}
use Rattle.std.proofs.lemmas.Bool.{eqb-true, eqb-false}
use Rattle.express_words.specs.declared.settings.Settings.{Settings}
use Rattle.schedule_text.specs.declared.schedule.Event.{Event}
use Rattle.schedule_text.specs.declared.schedule.TheConstants.{MOST_EVENTS}
use Rattle.schedule_text.specs.Grammar.{event_of, may_follow, event_after, event_or, events_from}
use Rattle.schedule_text.specs.Lanes.{MayFollow}
use Rattle.schedule_text.specs.Spelling.{SpellsEvent, SpellsEvents, IsBadAfter}
use Rattle.express_texts.proofs.FieldLaws.{bind_some}
use Rattle.schedule_text.proofs.EventLaws.{event_found, event_only}
use Rattle.schedule_text.proofs.RuleLaws.{follows_found, follows_only}
use Rattle.schedule_text.proofs.TextLemmas.{events_from_next, events_from_bad, events_from_full}

-- settings whose lanes are a 16-bit number and at least one
abbrev pub HasLanes : Settings → Type 0
HasLanes settings = (0 < settings.lanes) × (settings.lanes < 2 ^ 16)

-- ---- one line behind some events

after_found : (settings : Settings) (before : List Event) (line : List ℕ) (event : Event) → HasLanes settings
    → event_after settings before line ≡ Some event → SpellsEvent settings event line × MayFollow before event
unfolding event_after
after_found settings before line event lanes h =
    let a = bind_some (event_of settings line) (λ event. cond (may_follow before event) (Some event) None)
    event h in
    at_test a.0 (may_follow before a.0) a.1 refl a.2
  where
    at_test : (found : Event) (t : Bool) → event_of settings line ≡ Some found → may_follow before found ≡ t
        → cond t (Some found) None ≡ Some event → SpellsEvent settings event line × MayFollow before event
    at_test found true is e k =
        let same : found ≡ event = cc in
        subst (λ (x : Event). SpellsEvent settings x line × MayFollow before x) same
        (event_found settings line found lanes.0 lanes.1 is, follows_found before found e)
    at_test found false is e k = cc

after_only : (settings : Settings) (before : List Event) (line : List ℕ) (event : Event) → HasLanes settings
    → SpellsEvent settings event line → MayFollow before event → event_after settings before line ≡ Some event
unfolding event_after
after_only settings before line event lanes spelled follows =
    rw (event_only settings line event lanes.1 spelled, follows_only before event follows) refl

none_after : (settings : Settings) (before : List Event) (line : List ℕ) → HasLanes settings
    → event_after settings before line ≡ None → IsBadAfter settings before line
none_after settings before line lanes none event spelled follows =
    let some = after_only settings before line event lanes spelled follows in cc

none_of : (settings : Settings) (before : List Event) (line : List ℕ) (r : Option Event) → HasLanes settings
    → event_after settings before line ≡ r
    → IsBadAfter settings before line → event_after settings before line ≡ None
none_of settings before line None lanes is bad = is
none_of settings before line (Some event) lanes is bad =
    let f = after_found settings before line event lanes is in absurd (bad event f.0 f.1)

-- ---- all lines

-- a line's event stands behind those before it
one_more : (before more : List Event) (event : Event)
    → (before ++ event ∷ []) ++ more ≡ before ++ event ∷ more
one_more before more event = append_assoc before (event ∷ []) more

room_for : (before : List Event) → length before ≤ MOST_EVENTS → nat_eq (length before) MOST_EVENTS ≡ false
    → length before < MOST_EVENTS
room_for before few other = let less = eqb-false (length before) MOST_EVENTS other in omega (arith, few, less)

still_few : (before : List Event) (event : Event) → length before < MOST_EVENTS
    → length (before ++ event ∷ []) ≤ MOST_EVENTS
still_few before event room = simp length-append (omega (arith, room))

pub record AreFrom (settings : Settings) (before : List Event) (lines : List (List ℕ))
    (events : List Event) : Type 0 where
  pub more : List Event
  pub split : before ++ more ≡ events
  pub spelled : SpellsEvents settings before more lines
  pub few : length events ≤ MOST_EVENTS

pub events_found : (settings : Settings) (before : List Event) (lines : List (List ℕ)) (events : List Event)
    → HasLanes settings
    → length before ≤ MOST_EVENTS → events_from settings before lines ≡ Ok events
    → AreFrom settings before lines events
unfolding events_from
events_found settings before [] events lanes few h =
    let e : before ≡ events = cc in
    record {
      more = [];
      split = append-nil before
          ∙ e;
      spelled = tt;
      few = subst (λ (es : List Event). length es ≤ MOST_EVENTS) e few;
    }
events_found settings before (line ∷ lines) events lanes few h =
    at_test (nat_eq (length before) MOST_EVENTS) (event_after settings before line) refl refl h
    (λ event room k. events_found settings (before ++ event ∷ []) lines events lanes
    (still_few before event room) k)
  where
    at_test : (t : Bool) (r : Option Event) → nat_eq (length before) MOST_EVENTS ≡ t
        → event_after settings before line ≡ r
        → cond t (Err (length before + 2))
        (event_or (length before + 2) r
        (λ event. events_from settings (before ++ event ∷ []) lines)) ≡ Ok events
        → ((event : Event) → length before < MOST_EVENTS
        → events_from settings (before ++ event ∷ []) lines ≡ Ok events
        → AreFrom settings (before ++ event ∷ []) lines events)
        → AreFrom settings before (line ∷ lines) events
    at_test true r e is k others = cc
    at_test false None e is k others = cc
    at_test false (Some event) e is k others =
        let a = others event (room_for before few e) k in
        record {
          more = event ∷ a.more;
          split = sym (one_more before a.more event) ∙ a.split;
          spelled = (after_found settings before line event lanes is, a.spelled);
          few = a.few;
        }

pub events_only : (settings : Settings) (before events : List Event) (lines : List (List ℕ)) → HasLanes settings
    → length before + length events ≤ MOST_EVENTS → SpellsEvents settings before events lines
    → events_from settings before lines ≡ Ok (before ++ events)
unfolding events_from
events_only settings before [] [] lanes few h = ap Ok (sym (append-nil before))
events_only settings before [] (line ∷ lines) lanes few h = absurd h
events_only settings before (event ∷ events) [] lanes few h = absurd h
events_only settings before (event ∷ events) (line ∷ lines) lanes few h =
    let grown : length (before ++ event ∷ []) + length events ≤ MOST_EVENTS =
    simp length-append (omega (arith, few)) in
    events_from_next settings before line lines event (omega (arith, few))
    (after_only settings before line event lanes h.0.0 h.0.1)
    ∙ events_only settings (before ++ event ∷ []) events lines lanes grown h.1
    ∙ ap Ok (one_more before events event)

-- the first bad line of these, where some events stand before them
pub record IsBadFrom (settings : Settings) (start : List Event) (bad : ℕ) (lines : List (List ℕ)) : Type 0
  where
    pub before : List (List ℕ)
    pub line : List ℕ
    pub behind : List (List ℕ)
    pub split : lines ≡ before ++ line ∷ behind
    pub events : List Event
    pub spelled : SpellsEvents settings start events before
    pub few : length (start ++ events) ≤ MOST_EVENTS
    pub cause : (length (start ++ events) ≡ MOST_EVENTS) ⊎ IsBadAfter settings (start ++ events) line
    pub place : bad ≡ length (start ++ events) + 2

bad_here : (settings : Settings) (start : List Event) (bad : ℕ) (line : List ℕ) (lines : List (List ℕ))
    → length start ≤ MOST_EVENTS
    → (length start ≡ MOST_EVENTS) ⊎ IsBadAfter settings start line → bad ≡ length start + 2
    → IsBadFrom settings start bad (line ∷ lines)
bad_here settings start bad line lines few cause place =
    let same = sym (append-nil start) in
    record {
      before = [];
      line = line;
      behind = lines;
      split = refl;
      events = [];
      spelled = tt;
      few = subst (λ (es : List Event). length es ≤ MOST_EVENTS) same few;
      cause = subst (λ (es : List Event). (length es ≡ MOST_EVENTS) ⊎ IsBadAfter settings es line) same cause;
      place = subst (λ (es : List Event). bad ≡ length es + 2) same place;
    }

bad_later : (settings : Settings) (start : List Event) (bad : ℕ) (line : List ℕ) (lines : List (List ℕ))
    (event : Event)
    → SpellsEvent settings event line × MayFollow start event
    → IsBadFrom settings (start ++ event ∷ []) bad lines → IsBadFrom settings start bad (line ∷ lines)
bad_later settings start bad line lines event first r =
    let same = one_more start r.events event in
    record {
      before = line ∷ r.before;
      line = r.line;
      behind = r.behind;
      split = ap (λ ls. line ∷ ls) r.split;
      events = event ∷ r.events;
      spelled = (first, r.spelled);
      few = subst (λ (es : List Event). length es ≤ MOST_EVENTS) same r.few;
      cause = subst (λ (es : List Event). (length es ≡ MOST_EVENTS) ⊎ IsBadAfter settings es r.line) same
          r.cause;
      place = subst (λ (es : List Event). bad ≡ length es + 2) same r.place;
    }

pub events_bad : (settings : Settings) (start : List Event) (bad : ℕ) (lines : List (List ℕ))
    → HasLanes settings → length start ≤ MOST_EVENTS
    → events_from settings start lines ≡ Err bad → IsBadFrom settings start bad lines
unfolding events_from
events_bad settings start bad [] lanes few h = cc
events_bad settings start bad (line ∷ lines) lanes few h =
    at_test (nat_eq (length start) MOST_EVENTS) (event_after settings start line) refl refl h
    (λ event room k. events_bad settings (start ++ event ∷ []) bad lines lanes (still_few start event room) k)
  where
    at_test : (t : Bool) (r : Option Event) → nat_eq (length start) MOST_EVENTS ≡ t
        → event_after settings start line ≡ r
        → cond t (Err (length start + 2))
        (event_or (length start + 2) r
        (λ event. events_from settings (start ++ event ∷ []) lines)) ≡ Err bad
        → ((event : Event) → length start < MOST_EVENTS
        → events_from settings (start ++ event ∷ []) lines ≡ Err bad
        → IsBadFrom settings (start ++ event ∷ []) bad lines)
        → IsBadFrom settings start bad (line ∷ lines)
    at_test true r e is k others = bad_here settings start bad line lines few (inl (eqb-true _ _ e)) (cc)
    at_test false None e is k others =
        bad_here settings start bad line lines few (inr (none_after settings start line lanes is)) (cc)
    at_test false (Some event) e is k others =
        bad_later settings start bad line lines event (after_found settings start line event lanes is)
        (others event (room_for start few e) k)

pub bad_only : (settings : Settings) (start : List Event) (before : List (List ℕ)) (line : List ℕ)
    (behind : List (List ℕ)) (events : List Event) → HasLanes settings
    → SpellsEvents settings start events before → length start + length events ≤ MOST_EVENTS
    → (length (start ++ events) ≡ MOST_EVENTS) ⊎ IsBadAfter settings (start ++ events) line
    → events_from settings start (before ++ line ∷ behind) ≡ Err (length (start ++ events) + 2)
bad_only settings start [] line behind [] lanes spelled few cause =
    subst (λ (es : List Event). events_from settings start (line ∷ behind) ≡ Err (length es + 2))
    (sym (append-nil start))
    (here (subst (λ (es : List Event). (length es ≡ MOST_EVENTS) ⊎ IsBadAfter settings es line)
    (append-nil start) cause))
  where
    here : (length start ≡ MOST_EVENTS) ⊎ IsBadAfter settings start line
        → events_from settings start (line ∷ behind) ≡ Err (length start + 2)
    here (inl full) = events_from_full settings start line behind full
    here (inr none) = events_from_bad settings start line behind
        (none_of settings start line (event_after settings start line) lanes refl none)
bad_only settings start [] line behind (event ∷ events) lanes spelled few cause = absurd spelled
bad_only settings start (first ∷ before) line behind [] lanes spelled few cause = absurd spelled
bad_only settings start (first ∷ before) line behind (event ∷ events) lanes spelled few cause =
    let same = one_more start events event in
    let grown : length (start ++ event ∷ []) + length events ≤ MOST_EVENTS =
    simp length-append (omega (arith, few)) in
    events_from_next settings start first (before ++ line ∷ behind) event (omega (arith, few))
    (after_only settings start first event lanes spelled.0.0 spelled.0.1)
    ∙ bad_only settings (start ++ event ∷ []) before line behind events lanes spelled.1 grown
    (subst (λ (es : List Event). (length es ≡ MOST_EVENTS) ⊎ IsBadAfter settings es line) (sym same) cause)
    ∙ ap (λ (es : List Event). Err (length es + 2)) same
