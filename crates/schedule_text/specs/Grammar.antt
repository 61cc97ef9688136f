-- The text of a schedule, as a function from its bytes: the schedule, or the number of its first bad line.
use Rattle.std.specs.Prelude.{ℕ, ◌+◌, ◌-◌, ◌%◌, ◌==◌, ◌&&◌, not, Bool, true, if◌then◌else◌, length, List, []}
use Rattle.std.specs.Prelude.{◌∷◌, ◌++◌, codes, Option, Some, None, Result, Ok, Err, option_map}
use Rattle.express_words.specs.declared.settings.Settings.{Settings}
use Rattle.express_words.specs.Settled.{settled}
use Rattle.schedule_text.specs.declared.schedule.Header.{Header}
use Rattle.schedule_text.specs.declared.schedule.Asked.{Asked}
use Rattle.schedule_text.specs.declared.schedule.Asked.TheVariants.{Register, Write, Read, Retire}
use Rattle.schedule_text.specs.declared.schedule.Event.{Event}
use Rattle.schedule_text.specs.declared.schedule.Event.TheVariants.{Ask, Send, Tick, Deliver, Show, Finish}
use Rattle.schedule_text.specs.declared.schedule.Event.TheVariants.{Inject}
use Rattle.schedule_text.specs.declared.schedule.Schedule.{Schedule}
use Rattle.schedule_text.specs.declared.schedule.TheConstants.{MOST_EVENTS}
use Rattle.express_texts.specs.LineFields.{◌>>=◌, after, end, wanted, spelled_word, word_at}
use Rattle.express_texts.specs.LineFields.{message_of, seed_of}
use Rattle.express_texts.specs.Numbers.{number_at, last_number}
use Rattle.express_texts.specs.Lines.{lines_of}
use Rattle.schedule_text.specs.Fields.{or_else, server_at, bytes_of}
use Rattle.schedule_text.specs.Lanes.{client_of, foreign_by, is_used, is_foreign}

-- ---- what a client is asked

-- register ADDRESS
unfoldable pub register_of : List ℕ → Option Asked
register_of text = after (codes "register ") text >>= λ digits. option_map Register (spelled_word digits)

-- write ADDRESS MESSAGE, up to the message
unfoldable pub target_of : List ℕ → Option (ℕ × List ℕ)
target_of text = do
  rest ← after (codes "write ") text
  target ← word_at rest
  digits ← after (codes " ") target.1
  Some (target.0, digits)

unfoldable pub write_of : Settings → List ℕ → Option Asked
write_of settings text =
    target_of text >>= λ target. option_map (Write target.0) (message_of settings.width target.1)

-- read K
unfoldable pub read_of : List ℕ → Option Asked
read_of text = after (codes "read ") text >>= λ number. option_map Read (last_number 0 4095 number)

-- retire K
unfoldable pub retire_of : List ℕ → Option Asked
retire_of text = after (codes "retire ") text >>= λ number. option_map Retire (last_number 0 4095 number)

abbrev pub asked_of : Settings → List ℕ → Option Asked
asked_of settings text =
    or_else (register_of text) (or_else (write_of settings text) (or_else (read_of text) (retire_of text)))

-- ---- events

-- ask C, and what is asked
unfoldable pub asker_of : Settings → List ℕ → Option (ℕ × List ℕ)
asker_of settings line = do
  rest ← after (codes "ask ") line
  c ← number_at 0 (settings.lanes - 1) rest
  text ← after (codes " ") c.1
  Some (c.0, text)

unfoldable pub ask_of : Settings → List ℕ → Option Event
ask_of settings line = asker_of settings line >>= λ c. option_map (Ask c.0) (asked_of settings c.1)

-- a word, and a number up to this one and nothing more
unfoldable pub numbered : List ℕ → ℕ → (ℕ → Event) → List ℕ → Option Event
numbered word most make line = after word line >>= λ number. option_map make (last_number 0 most number)

-- send C, finish C, deliver N, show N
abbrev pub send_of : Settings → List ℕ → Option Event
send_of settings line = numbered (codes "send ") (settings.lanes - 1) Send line

abbrev pub finish_of : Settings → List ℕ → Option Event
finish_of settings line = numbered (codes "finish ") (settings.lanes - 1) Finish line

abbrev pub deliver_of : List ℕ → Option Event
deliver_of line = numbered (codes "deliver ") 4294967295 Deliver line

abbrev pub show_of : List ℕ → Option Event
show_of line = numbered (codes "show ") 4294967295 Show line

-- tick
unfoldable pub tick_of : List ℕ → Option Event
tick_of line = after (codes "tick") line >>= λ rest. end rest >>= λ u. Some Tick

-- inject S HEX, up to the digits
unfoldable pub injected_in : List ℕ → Option (ℕ × List ℕ)
injected_in line = after (codes "inject ") line >>= λ rest. server_at rest

unfoldable pub inject_of : List ℕ → Option Event
inject_of line = injected_in line >>= λ server. option_map (Inject server.0) (bytes_of server.1)

-- the lines of one word and at most one number
abbrev pub plain_event_of : Settings → List ℕ → Option Event
plain_event_of settings line =
    or_else (send_of settings line) (or_else (tick_of line) (or_else (deliver_of line)
    (or_else (show_of line) (finish_of settings line))))

-- the event that a line spells for itself
abbrev pub event_of : Settings → List ℕ → Option Event
event_of settings line =
    or_else (ask_of settings line) (or_else (plain_event_of settings line) (inject_of line))

-- such a lane, if there is one, is none of these
abbrev pub is_apart : (ℕ → Bool) → Option ℕ → Bool
is_apart among None = true
is_apart among (Some lane) = not (among lane)

-- the event may stand behind these
unfoldable pub may_follow : List Event → Event → Bool
may_follow before event =
    is_apart (is_foreign before) (client_of event) && is_apart (is_used before) (foreign_by event)

-- the event of a line that stands behind these
unfoldable pub event_after : Settings → List Event → List ℕ → Option Event
event_after settings before line =
    event_of settings line >>= λ event. if may_follow before event then Some event else None

-- ---- the header

-- express 1 WIDTH BOXES LANES WINDOW SEED
unfoldable pub header_of : List ℕ → Option Header
header_of line = do
  rest ← after (codes "express 1 ") line
  width ← number_at 16 4096 rest
  rest ← after (codes " ") width.1
  boxes ← number_at 1 4096 rest
  rest ← after (codes " ") boxes.1
  lanes ← number_at 1 256 rest
  rest ← after (codes " ") lanes.1
  window ← number_at 1 32 rest
  rest ← after (codes " ") window.1
  seed ← seed_of rest
  settings ← settled width.0 boxes.0 lanes.0 window.0
  Some (record { settings = settings; seed = seed })

-- ---- the whole text

-- goes on with the event, or names the line
abbrev pub event_or : {A : Type 0} → ℕ → Option Event → (Event → Result A ℕ) → Result A ℕ
event_or n None next = Err n
event_or n (Some event) next = next event

-- The events before, and those of the lines behind them. The header is line 1.
unfoldable pub events_from : Settings → List Event → List (List ℕ) → Result (List Event) ℕ
events_from settings before [] = Ok before
events_from settings before (line ∷ lines) =
    if length before == MOST_EVENTS then Err (length before + 2)
    else event_or (length before + 2) (event_after settings before line)
    (λ event. events_from settings (before ++ event ∷ []) lines)

abbrev pub under : Header → Result (List Event) ℕ → Result Schedule ℕ
under header (Ok events) = Ok (record { header = header; events = events })
under header (Err bad) = Err bad

abbrev pub header_then : Option Header → List (List ℕ) → Result Schedule ℕ
header_then None lines = Err 1
header_then (Some header) lines = under header (events_from header.settings [] lines)

-- A missing header is bad at its place.
unfoldable pub schedule_of_lines : List (List ℕ) → Result Schedule ℕ
schedule_of_lines [] = Err 1
schedule_of_lines (line ∷ lines) = header_then (header_of line) lines

-- the schedule that a text spells, or the number of its first bad line
abbrev pub schedule_of : List ℕ → Result Schedule ℕ
schedule_of text = schedule_of_lines (lines_of text)
