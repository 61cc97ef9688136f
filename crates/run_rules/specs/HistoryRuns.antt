-- The history of a schedule is that of its two runs.
use Rattle.std.specs.Prelude.{◌≡◌, ◌≤◌, ℕ, Bool, false, List, length, take}
use Rattle.express_words.specs.declared.settings.Settings.{Settings}
use Rattle.express_words.specs.Limits.{KeepsLimits}
use Rattle.mailbox_rules.specs.Requests.{lines_of}
use Rattle.token_rules.specs.Tokens.{World, oracle_of}
use Rattle.token_rules.specs.Run.{sent_of}
use Rattle.run_rules.specs.Letters.{FrameWorld}
use Rattle.run_rules.specs.Run.{Event}
use Rattle.run_rules.specs.Book.{Book}
use Rattle.run_rules.specs.History.{frame_run, token_run}
use Rattle.run_rules.specs.Acts.{AreFitting, Both, ended_of}

-- Of each client the history has the requests that the token run sent, serial 1 first: as many as the
-- client's serial says. Its commands are the token run's, and its entries are of those that were carried out,
-- in the order of the commands.
pub record HistoryIsRuns (b : Book) (f : FrameWorld) (w : World) : Type 0 where
  pub foreign : (c : ℕ) → b.foreign c ≡ w.foreign c
  pub sent : (c : ℕ) → b.sent c ≡ sent_of w c
  pub serials : (c : ℕ) → b.foreign c ≡ false → length (b.sent c) ≡ (w.lanes c).serial
  pub commands : b.commands ≡ w.commands
  pub entries : b.entries ≡ w.journal
  pub carried : lines_of b.entries ≡ take w.carried b.commands

-- the two runs that a history is read off are the run over bytes, which is printed, and the token run
pub record AreItsRuns (settings : Settings) (seed : List ℕ) (foreign : ℕ → Bool) (events : List Event)
    (s : Both) : Type 0 where
  pub frames : s.frames ≡ frame_run settings seed events
  pub tokens : s.world ≡ token_run (oracle_of s.acts) settings foreign events

-- so at the end of every schedule, with whatever bytes from outside
abbrev pub RunsAreOne : Type 0
RunsAreOne = (settings : Settings) (seed : List ℕ) (foreign : ℕ → Bool) (events : List Event)
    → KeepsLimits settings.width settings.boxes settings.lanes settings.window
    → AreFitting settings foreign events → length events ≤ 20000
    → AreItsRuns settings seed foreign events (ended_of settings seed foreign events)
