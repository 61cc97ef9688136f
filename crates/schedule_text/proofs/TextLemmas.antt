-- Lines and events, one after another.
use Rattle.std.proofs.Common.{◌≡◌, ℕ, ◌+◌, ◌<◌, nat_eq, Bool, cond, true, false, List, [], ◌∷◌, ◌++◌, length, Some, None, Result, Err, arith, refl}
use Rattle.std.proofs.lemmas.Bool.{ne_eqb}
use Rattle.express_words.specs.declared.settings.Settings.{Settings}
use Rattle.schedule_text.specs.Grammar.{event_after, events_from}
use Rattle.schedule_text.specs.declared.schedule.Event.{Event}
use Rattle.schedule_text.specs.declared.schedule.TheConstants.{MOST_EVENTS}

-- a line that is an event here goes behind those that were read
pub events_from_next : (settings : Settings) (before : List Event) (line : List ℕ) (lines : List (List ℕ))
    (event : Event)
    → length before < MOST_EVENTS → event_after settings before line ≡ Some event
    → events_from settings before (line ∷ lines) ≡ events_from settings (before ++ event ∷ []) lines
unfolding events_from
events_from_next settings before line lines event room is =
    let other : nat_eq (length before) MOST_EVENTS ≡ false =
    ne_eqb (length before) MOST_EVENTS (λ e. omega (arith, e, room)) in
    rw (other, is) refl

-- a line that is none here is the first bad one
pub events_from_bad : (settings : Settings) (before : List Event) (line : List ℕ) (lines : List (List ℕ))
    → event_after settings before line ≡ None
    → events_from settings before (line ∷ lines) ≡ Err (length before + 2)
unfolding events_from
events_from_bad settings before line lines is = rw is (either (nat_eq (length before) MOST_EVENTS))
  where
    either : (t : Bool) → cond {A = Result (List Event) ℕ} t (Err (length before + 2))
        (Err (length before + 2)) ≡ Err (length before + 2)
    either true = refl
    either false = refl

-- a line more than there may be is the first bad one
pub events_from_full : (settings : Settings) (before : List Event) (line : List ℕ) (lines : List (List ℕ))
    → length before ≡ MOST_EVENTS → events_from settings before (line ∷ lines) ≡ Err (length before + 2)
unfolding events_from
events_from_full settings before line lines full =
    let none : nat_eq (length before) MOST_EVENTS ≡ true = rw full refl in rw none refl
