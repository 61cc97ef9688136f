-- What holds of every schedule, with whatever bytes from outside, frames lost, repeated or reordered.
use Rattle.std.specs.Prelude.{◌≡◌, ◌<◌, ◌++◌, ◌∷◌, ℕ, true, false, Bool, List, [], Some, is_none, slice_get}
use Rattle.mailbox_rules.specs.Requests.{Entry}
use Rattle.token_rules.specs.Tokens.{World, oracle_of}
use Rattle.token_rules.specs.Laws.{Accounts, AreNumbered, asked_by, asks_of}
use Rattle.leader_core.specs.Awaited.{RowsAwait}
use Rattle.run_rules.specs.Letters.{FrameWorld}
use Rattle.run_rules.specs.Book.{Book}
use Rattle.run_rules.specs.History.{HasOutcome, token_events, token_run}
use Rattle.run_rules.specs.Acts.{AreFitting, Both, ended_of, foreign_in, history_of}
use Rattle.run_rules.specs.Came.{WasBrought}
use Rattle.run_rules.specs.HistoryRuns.{AreItsRuns}
use Rattle.schedule_text.specs.declared.schedule.Event.{Event}
use Rattle.schedule_text.specs.declared.schedule.Event.TheVariants.{Finish}
use Rattle.schedule_text.specs.declared.schedule.Schedule.{Schedule}
use Rattle.schedule_text.specs.Lanes.{is_foreign}
use Rattle.schedule_text.specs.Rules.{KeepsRules}
use Rattle.replay_world.specs.Laws.{AreFromClients}
use Rattle.replay_world.specs.Parts.{events_in}
use Rattle.replay_world.specs.Played.{run_of}

-- the lanes that bytes from outside name in a frame of a client
abbrev pub strangers_in : Schedule → ℕ → Bool
strangers_in schedule = foreign_in (events_in schedule.events)

-- they are the lanes that the rules call foreign
abbrev pub StrangersAreForeign : Type 0
StrangersAreForeign = (schedule : Schedule) (c : ℕ) → strangers_in schedule c ≡ is_foreign schedule.events c

-- so there is none where no bytes come from outside
abbrev pub ClientsAreAlone : Type 0
ClientsAreAlone = (schedule : Schedule) (c : ℕ) → AreFromClients schedule.events
    → strangers_in schedule c ≡ false

-- and no client of a schedule that keeps the rules has such a lane
abbrev pub SchedulesFit : Type 0
SchedulesFit = (schedule : Schedule) → KeepsRules schedule
    → AreFitting schedule.header.settings (strangers_in schedule) (events_in schedule.events)

-- both runs of a schedule at its end, with what its foreign lanes brought
abbrev pub runs_of : Schedule → Both
runs_of schedule =
    ended_of schedule.header.settings schedule.header.seed (strangers_in schedule) (events_in schedule.events)

-- the history of a schedule's run
abbrev pub history_in : Schedule → Book
history_in schedule =
    history_of schedule.header.settings schedule.header.seed (strangers_in schedule) (runs_of schedule)

-- These are the run over bytes, which is printed, and the token run: so is the history.
abbrev pub HistoryIsOfRun : Type 0
HistoryIsOfRun = (schedule : Schedule) → KeepsRules schedule
    → AreItsRuns schedule.header.settings schedule.header.seed (strangers_in schedule)
    (events_in schedule.events) (runs_of schedule)

-- Of the history that both runs have, the run over bytes, and the token run.
abbrev pub OfEverySchedule : (Book → FrameWorld → World → Type 0) → Type 0
OfEverySchedule P = (schedule : Schedule) → KeepsRules schedule
    → P (history_in schedule) (run_of schedule)
    (token_run (oracle_of (runs_of schedule).acts) schedule.header.settings (strangers_in schedule)
    (events_in schedule.events))

-- A foreign command that did something was brought what it needs, at both servers, by frames of its lane.
abbrev pub StrangersWereBrought : Type 0
StrangersWereBrought = (schedule : Schedule) (i : ℕ) (e : Entry) → KeepsRules schedule
    → slice_get (history_in schedule).entries i ≡ Some e → strangers_in schedule e.line.lane ≡ true
    → WasBrought (history_in schedule) (runs_of schedule).taken e.line e.does

-- Of each lane of the leader, a foreign one too, the command that its busy row waits for is outstanding, and
-- nothing else: at the end of every schedule, and so before each of its events.
abbrev pub BusyRowsAwait : Type 0
BusyRowsAwait = (schedule : Schedule) → RowsAwait (run_of schedule).leader

-- The requests that the client of a lane which isn't foreign was asked are those that have their outcomes,
-- numbered in order, then the current one, and then those that wait; each that was sent has the next serial.
abbrev pub RequestsAreTold : Type 0
RequestsAreTold =
    (schedule : Schedule) (client : ℕ) → KeepsRules schedule → strangers_in schedule client ≡ false
    → let w = token_run (oracle_of (runs_of schedule).acts) schedule.header.settings (strangers_in schedule)
    (events_in schedule.events) in
    AreNumbered w client × Accounts (asked_by client (token_events (events_in schedule.events))) w client

-- Each request that a client was asked before a `finish` of it has its outcome, whatever comes after.
abbrev pub FinishesAnswer : Type 0
FinishesAnswer = (schedule : Schedule) (client number : ℕ) (before after : List Event) → KeepsRules schedule
    → schedule.events ≡ before ++ Finish client ∷ after
    → number < asks_of client (token_events (events_in before))
    → HasOutcome client number (run_of schedule)

-- A `finish` of a client that has a request leaves no command outstanding: each drain in it ends with none.
abbrev pub FinishesDrain : Type 0
FinishesDrain = (schedule : Schedule) (client : ℕ) (before : List Event) → KeepsRules schedule
    → schedule.events ≡ before ++ Finish client ∷ []
    → is_none ((run_of (record { header = schedule.header; events = before })).clients client).current ≡ false
    → (run_of schedule).leader.outstanding ≡ []
