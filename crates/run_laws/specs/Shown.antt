-- Which frames are shown.
use Rattle.std.specs.Prelude.{◌≡◌, ℕ, List, [], ◌∷◌, ◌++◌, Option, Some, None, slice_get}
use Rattle.express_words.specs.declared.settings.Settings.{Settings}
use Rattle.run_rules.specs.History.{frame_run}
use Rattle.run_rules.specs.Letters.{FrameWorld, Letter, Shown, opened}
use Rattle.run_rules.specs.Run.{Event, Show, happens}

-- the frame of that number, if it was sent by then
abbrev pub shown_of : ℕ → Option Letter → List Shown
shown_of number (Some l) = record { number = number; bytes = l.bytes } ∷ []
shown_of number None = []

abbrev pub shown_by : FrameWorld → Event → List Shown
shown_by w (Show number) = shown_of number (slice_get w.pool number)
shown_by w event = []

-- what the events of a schedule show, each as its run stands there
unfoldable pub shown_in : FrameWorld → List Event → List Shown
shown_in w [] = []
shown_in w (event ∷ events) = shown_by w event ++ shown_in (happens w event) events

-- Each `show` of a number shows the frame of that number, byte for byte, if it was sent by then; and nothing
-- else is shown.
abbrev pub FramesAreShown : Type 0
FramesAreShown = (settings : Settings) (seed : List ℕ) (events : List Event)
    → (frame_run settings seed events).shown ≡ shown_in (opened settings seed) events
