-- The parts of a world as the run's rules have them.
use Rattle.std.specs.Prelude.{ℕ, nat_eq, List, map}
use Rattle.mailbox_rules.specs.Requests as rules
use Rattle.client_core.specs.Outcomes.{with_message}
use Rattle.run_rules.specs.Letters as run
use Rattle.run_rules.specs.Letters.{letter}
use Rattle.run_rules.specs.Run as event
use Rattle.schedule_text.specs.declared.schedule.Asked.{Asked}
use Rattle.schedule_text.specs.declared.schedule.Asked.TheVariants as asked
use Rattle.schedule_text.specs.declared.schedule.Event.{Event}
use Rattle.schedule_text.specs.declared.schedule.Event.TheVariants as events
use Rattle.replay_world.specs.declared.lines.Command.{Command}
use Rattle.replay_world.specs.declared.lines.Command.TheVariants as command
use Rattle.replay_world.specs.declared.lines.Entry.{Entry}
use Rattle.replay_world.specs.declared.lines.Entry.TheVariants as entry
use Rattle.replay_world.specs.declared.lines.JournalLine.{JournalLine}
use Rattle.replay_world.specs.declared.lines.Told.{Told}
use Rattle.replay_world.specs.declared.lines.Told.TheVariants as told
use Rattle.replay_world.specs.declared.lines.OutcomeLine.{OutcomeLine}
use Rattle.replay_world.specs.declared.lines.Shown.{Shown}
use Rattle.replay_world.specs.declared.pool.Addressee.{Addressee}
use Rattle.replay_world.specs.declared.pool.Addressee.TheVariants as addressee
use Rattle.replay_world.specs.declared.pool.Letter.{Letter}

-- ---- the pool

abbrev pub addressee_in : Addressee → run.Addressee
addressee_in (addressee.Client lane) = run.ToClient lane
addressee_in addressee.Leader = run.ToLeader
addressee_in addressee.Helper = run.ToHelper
addressee_in addressee.LeaderLink = run.ToLeaderLink
addressee_in addressee.HelperLink = run.ToHelperLink

abbrev pub letter_in : Letter → run.Letter
letter_in l = letter (addressee_in l.to) l.bytes

abbrev pub pool_in : List Letter → List run.Letter
pool_in letters = map letter_in letters

-- ---- requests and events

abbrev pub request_in : Asked → rules.Request
request_in (asked.Register address) = rules.Register address
request_in (asked.Write target message) = rules.Write target message
request_in (asked.Read own) = rules.Read own
request_in (asked.Retire own) = rules.Retire own

abbrev pub requests_in : List Asked → List rules.Request
requests_in requests = map request_in requests

-- bytes for server 0, the leader, or for the helper
abbrev pub injected : ℕ → List ℕ → event.Event
injected server bytes = event.Inject (nat_eq server 0) bytes

abbrev pub event_in : Event → event.Event
event_in (events.Ask client request) = event.Ask client (request_in request)
event_in (events.Send client) = event.Send client
event_in events.Tick = event.Tick
event_in (events.Deliver number) = event.Deliver number
event_in (events.Show number) = event.Show number
event_in (events.Finish client) = event.Finish client
event_in (events.Inject server bytes) = injected server bytes

abbrev pub events_in : List Event → List event.Event
events_in all = map event_in all

-- ---- the journal

abbrev pub command_in : Command → rules.Command
command_in command.Register = rules.Registers
command_in command.Begin = rules.Begins
command_in command.Audit = rules.Audits
command_in command.Settle = rules.Settles
command_in command.Read = rules.Reads
command_in command.Retire = rules.Retires

abbrev pub value_in : Entry → run.Value
value_in (entry.Registered box) = run.Registered box
value_in (entry.Began count) = run.Began count
value_in (entry.Audited leaders helpers closing) = run.Audited leaders helpers closing
value_in (entry.Settled accepted leaders) = run.Settled accepted leaders
value_in (entry.WasRead box) = run.WasRead box
value_in (entry.Retired box) = run.Retired box
value_in (entry.Refused of refusal) = run.Refused (command_in of) refusal

abbrev pub line_in : JournalLine → run.JournalLine
line_in j = record { lane = j.lane; serial = j.serial; value = value_in j.entry }

abbrev pub journal_in : List JournalLine → List run.JournalLine
journal_in lines = map line_in lines

-- ---- what is told

-- with the bytes of a message
abbrev pub told_in : Told → List ℕ → run.Told
told_in (told.Done outcome) message = run.Ended (with_message outcome message)
told_in (told.NoOwn own) message = run.NoOwnBox own

abbrev pub outcome_in : OutcomeLine → run.Outcome
outcome_in o = record { client = o.client; request = o.request; told = told_in o.outcome o.message }

abbrev pub outcomes_in : List OutcomeLine → List run.Outcome
outcomes_in lines = map outcome_in lines

abbrev pub shown_in : Shown → run.Shown
shown_in s = record { number = s.number; bytes = s.bytes }

abbrev pub shown_all_in : List Shown → List run.Shown
shown_all_in lines = map shown_in lines
