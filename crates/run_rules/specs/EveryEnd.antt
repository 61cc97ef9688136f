-- What holds at the end of every schedule, with whatever bytes from outside.
use Rattle.std.specs.Prelude.{◌≡◌, ◌<◌, ◌≤◌, ◌++◌, ◌∷◌, ℕ, suc, Bool, false, List, [], is_none, length}
use Rattle.express_words.specs.declared.settings.Settings.{Settings}
use Rattle.express_words.specs.Limits.{KeepsLimits}
use Rattle.token_rules.specs.Tokens.{World, oracle_of}
use Rattle.token_rules.specs.Laws.{asks_of}
use Rattle.run_rules.specs.Letters.{FrameWorld}
use Rattle.run_rules.specs.Run.{Event, Finish}
use Rattle.run_rules.specs.Book.{Book}
use Rattle.run_rules.specs.History.{HasEnded, HasOutcome, frame_run, token_events, token_run}
use Rattle.run_rules.specs.Acts.{AreFitting, ended_of, history_of}
use Rattle.run_rules.specs.Plain.{IsHistory}

-- Of the history, the run over bytes and the token run of every schedule whose clients' lanes aren't foreign
-- and whose bytes from outside name foreign lanes. The token run's oracle and the history are read off both
-- runs.
abbrev pub AtEveryEnd : (Book → FrameWorld → World → Type 0) → Type 0
AtEveryEnd P = (settings : Settings) (seed : List ℕ) (foreign : ℕ → Bool) (events : List Event)
    → KeepsLimits settings.width settings.boxes settings.lanes settings.window
    → AreFitting settings foreign events → length events ≤ 20000
    → let s = ended_of settings seed foreign events in
    P (history_of settings seed foreign s) (frame_run settings seed events)
    (token_run (oracle_of s.acts) settings foreign events)

abbrev pub HistoryIsSo : Book → FrameWorld → World → Type 0
HistoryIsSo b f w = IsHistory b

-- Each reply of the helper to a foreign command fitted at the leader.
abbrev pub RepliesFit : Book → FrameWorld → World → Type 0
RepliesFit b f w = w.misfits ≡ 0

-- after its `finish` a client has ended, in every such schedule
abbrev pub FinishAlwaysEnds : Type 0
FinishAlwaysEnds = (settings : Settings) (seed : List ℕ) (foreign : ℕ → Bool) (events : List Event) (c : ℕ)
    → KeepsLimits settings.width settings.boxes settings.lanes settings.window
    → AreFitting settings foreign events → foreign c ≡ false → suc (length events) ≤ 20000
    → HasEnded c (asks_of c (token_events events)) (frame_run settings seed (events ++ Finish c ∷ []))

-- A `finish` of a client that has a request leaves no command outstanding: each drain in it ends with none.
abbrev pub FinishDrains : Type 0
FinishDrains = (settings : Settings) (seed : List ℕ) (foreign : ℕ → Bool) (events : List Event) (c : ℕ)
    → KeepsLimits settings.width settings.boxes settings.lanes settings.window
    → AreFitting settings foreign events → foreign c ≡ false → suc (length events) ≤ 20000
    → is_none ((frame_run settings seed events).clients c).current ≡ false
    → (frame_run settings seed (events ++ Finish c ∷ [])).leader.outstanding ≡ []

-- each request that a client was asked before a `finish` of it has its outcome, whatever comes after
abbrev pub FinishAnswers : Type 0
FinishAnswers =
    (settings : Settings) (seed : List ℕ) (foreign : ℕ → Bool) (before after : List Event) (c number : ℕ)
    → KeepsLimits settings.width settings.boxes settings.lanes settings.window
    → AreFitting settings foreign (before ++ Finish c ∷ after) → foreign c ≡ false
    → length (before ++ Finish c ∷ after) ≤ 20000 → number < asks_of c (token_events before)
    → HasOutcome c number (frame_run settings seed (before ++ Finish c ∷ after))
