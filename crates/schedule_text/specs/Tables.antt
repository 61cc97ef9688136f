-- What a table of lanes says of the events so far.
use Rattle.std.specs.Prelude.{◌≡◌, ℕ, ◌<◌, false, List, [], ◌∷◌, ◌++◌, slice_index_or}
use Rattle.std.specs.Prelude.{Option, Some, None, Result, IfOk, IfSome}
use Rattle.schedule_text.specs.Lanes.{is_used, is_foreign}
use Rattle.schedule_text.specs.declared.lanes.Lanes.{Lanes}
use Rattle.schedule_text.specs.declared.schedule.Event.{Event}

-- No client is at or above 256; a foreign lane may be.
pub record IsTableOf (lanes : Lanes) (events : List Event) : Type 0 where
  pub used : (lane : ℕ) → slice_index_or lanes.used lane false ≡ is_used events lane
  pub foreign : (lane : ℕ) → lane < 256 → slice_index_or lanes.foreign lane false ≡ is_foreign events lane

-- where an event was found, a table of the events before is now one of these and that event
abbrev pub NotesFound : {E : Type 0} → Lanes → Lanes → Result (Option Event) E → Type 0
NotesFound old new result =
    (before : List Event) → IsTableOf old before →
    IfOk result (λ found. IfSome found (λ event. IsTableOf new (before ++ event ∷ [])))

-- such a lane, if there is one, is below the limit
abbrev pub IsBelow : ℕ → Option ℕ → Type 0
IsBelow limit None = Unit {0}
IsBelow limit (Some lane) = lane < limit
