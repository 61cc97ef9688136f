-- A hub in memory.
use Rattle.std.specs.Prelude.{ℕ, Bool, true, false, List, map, Option, Some, None}
use Rattle.many_words.specs.Events.{Event, Entry, Waited, Opened, Asked, Came, Ended, Blocked, Closed, Dropped, Logged, LogFailed, Unanswered, Sent, SentAgain}
use Rattle.many_words.specs.declared.memory_hub.Kind.{Kind}
use Rattle.many_words.specs.declared.memory_hub.Kind.TheVariants as kind
use Rattle.many_words.specs.declared.memory_hub.Note.{Note}

-- the calls, where all of them were noted
abbrev pub told_if : Bool → List Event → Option (List Event)
told_if true events = Some events
told_if false events = None

-- what a note stands for, with its bytes and its entries
abbrev pub event_of : Kind → (place : ℕ) → List ℕ → List Entry → Event
event_of kind.Waited place bytes entries = Waited place
event_of (kind.Opened door) place bytes entries = Opened place door
event_of (kind.Asked door) place bytes entries = Asked place door
event_of kind.Came place bytes entries = Came place bytes
event_of kind.Ended place bytes entries = Ended place
event_of kind.Blocked place bytes entries = Blocked place
event_of kind.Closed place bytes entries = Closed place
event_of kind.Dropped place bytes entries = Dropped place
event_of kind.Logged place bytes entries = Logged entries
event_of kind.LogFailed place bytes entries = LogFailed
event_of kind.Unanswered place bytes entries = Unanswered place
event_of kind.Sent place bytes entries = Sent place bytes
event_of kind.SentAgain place bytes entries = SentAgain place bytes

abbrev pub event_in : Note → Event
event_in n = event_of n.kind n.number n.bytes.items n.entries.items

-- what is told of these notes
abbrev pub told_of : Bool → List Note → Option (List Event)
told_of whole notes = told_if whole (map event_in notes)
