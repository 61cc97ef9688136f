-- An owner's ledger, and what each note does to it.
use Rattle.std.specs.Prelude.{ℕ, ◌==◌, ◌&&◌, ◌||◌, not, if◌then◌else◌, Bool, true, false, bytes_eq}
use Rattle.std.specs.Prelude.{List, [], ◌∷◌, ◌++◌, slice_get, slice_set, Option, Some, None, Result, Ok}
use Rattle.std.specs.Prelude.{Err, is_none, unwrap_or}
use Rattle.std.specs.List.{list_all, list_any, position}
use Rattle.express_words.specs.declared.refusal.Refusal.{Refusal}
use Rattle.express_words.specs.declared.refusal.Refusal.TheVariants as refusal
use Rattle.mailbox_rules.specs.Requests as plain
use Rattle.step_rules.specs.Client as steps
use Rattle.step_rules.specs.Client.{Client, Current, Fault, Outcome, Progress, Turn, opened_client}
use Rattle.step_rules.specs.ClientAsks as asks
use Rattle.step_rules.specs.ClientReplies.{on_reply}
use Rattle.client_core.specs.GivingUp.{given_up}
use Rattle.desk_sheets.specs.declared.sheet.Pair.{Pair}
use Rattle.desk_texts.specs.declared.day.Day.{Day}
use Rattle.kept_ledger.specs.declared.entry.Denial.{Denial}
use Rattle.kept_ledger.specs.declared.entry.Denial.TheVariants.{Taken, Full}
use Rattle.kept_ledger.specs.declared.entry.Denied.{Denied as DeniedAt}
use Rattle.kept_ledger.specs.declared.entry.Handling.{Handling}
use Rattle.kept_ledger.specs.declared.entry.Handling.TheVariants.{Shown, Written}
use Rattle.kept_ledger.specs.declared.entry.LedgerBox.{LedgerBox}
use Rattle.kept_ledger.specs.declared.entry.LetterMark.{LetterMark}
use Rattle.kept_ledger.specs.declared.entry.Marked.{Marked as MarkedLetter}
use Rattle.kept_ledger.specs.declared.entry.NamedBoxes.{NamedBoxes}
use Rattle.kept_ledger.specs.declared.entry.OwnBox.{OwnBox}
use Rattle.kept_ledger.specs.declared.entry.Reading.{Reading}
use Rattle.kept_ledger.specs.declared.task.Task.{Task}
use Rattle.kept_ledger.specs.declared.task.Task.TheVariants.{Register, Read, Retire}
use Rattle.kept_ledger.specs.Notes.{Opening, Wanted, Noted, Named, Closed, Retiring, Marked, Asked, Time}
use Rattle.kept_ledger.specs.Notes.{Heard, GivenUp, Owned, Denied, Carried}

-- Its pair of servers, the seed of all that is drawn, its client, the names of its boxes, the boxes that it
-- got, in the order of the client's own, the addresses that get none, what boxes held, which letters were
-- shown or written out, the time that was noted last, in seconds since 1970 UTC, and why the last request
-- came to nothing, or isn't taken now.
pub record LedgerState : Type 0 where
  pub pair : Pair
  pub seed : List ℕ
  pub client : Client
  pub named : List NamedBoxes
  pub boxes : List LedgerBox
  pub denied : List DeniedAt
  pub readings : List Reading
  pub marks : List MarkedLetter
  pub seconds : ℕ
  pub refused : Option Refusal

abbrev pub client_at : Opening → Client
client_at o = opened_client o.pair.lane o.seed o.pair.width o.pair.boxes o.first_serial

abbrev pub opened_ledger : Opening → LedgerState
opened_ledger o = record {
  pair = o.pair;
  seed = o.seed;
  client = client_at o;
  named = [];
  boxes = [];
  denied = [];
  readings = [];
  marks = [];
  seconds = 0;
  refused = None;
}

-- ---- names

abbrev pub has_name : List ℕ → NamedBoxes → Bool
has_name name n = bytes_eq n.name name

abbrev pub is_used : List NamedBoxes → List ℕ → Bool
is_used named name = list_any (has_name name) named

abbrev pub is_among : ℕ → List ℕ → Bool
is_among address addresses = list_any (λ a. a == address) addresses

abbrev pub names_address : ℕ → NamedBoxes → Bool
names_address address n = is_among address n.addresses

abbrev pub is_drawn : List NamedBoxes → ℕ → Bool
is_drawn named address = list_any (names_address address) named

-- all different, and none stands at a name already
abbrev pub are_new : List NamedBoxes → List ℕ → Bool
are_new named [] = true
are_new named (a ∷ addresses) = not (is_among a addresses || is_drawn named a) && are_new named addresses

abbrev pub boxes_wanted : Wanted → NamedBoxes
boxes_wanted w = record {
  name = w.name;
  addresses = w.addresses;
  until = w.until;
  closed = None;
  is_retiring = false;
}

abbrev pub fits_names : List NamedBoxes → Wanted → Bool
fits_names named w = not (is_used named w.name) && are_new named w.addresses

-- a name that stands already, or an address that does, is not taken
abbrev pub named_with : LedgerState → Wanted → LedgerState
named_with s w =
    if fits_names s.named w then record s { named = s.named ++ boxes_wanted w ∷ [] } else s

abbrev pub replaced : (NamedBoxes → NamedBoxes) → List NamedBoxes → ℕ → Option NamedBoxes → List NamedBoxes
replaced change named place None = named
replaced change named place (Some n) = slice_set named place (change n)

abbrev pub changed_at : (NamedBoxes → NamedBoxes) → List NamedBoxes → Option ℕ → List NamedBoxes
changed_at change named None = named
changed_at change named (Some place) = replaced change named place (slice_get named place)

-- with this change of the boxes with a name
abbrev pub changed : (NamedBoxes → NamedBoxes) → List ℕ → List NamedBoxes → List NamedBoxes
changed change name named = changed_at change named (position (has_name name) named)

-- the first day stands
abbrev pub closed_on : Day → NamedBoxes → NamedBoxes
closed_on day n = record n { closed = Some (unwrap_or n.closed day) }

abbrev pub to_retire : NamedBoxes → NamedBoxes
to_retire n = record n { is_retiring = true }

-- ---- marks

abbrev pub is_same_handling : Handling → Handling → Bool
is_same_handling Shown Shown = true
is_same_handling Written Written = true
is_same_handling a b = false

abbrev pub is_same_mark : LetterMark → LetterMark → Bool
is_same_mark a b = (a.id == b.id) && (a.parts == b.parts)

abbrev pub is_mark_of : LetterMark → Handling → MarkedLetter → Bool
is_mark_of mark handling m = is_same_mark m.mark mark && is_same_handling m.handling handling

-- the letter was shown, or was written out
abbrev pub is_marked : List MarkedLetter → LetterMark → Handling → Bool
is_marked marks mark handling = list_any (is_mark_of mark handling) marks

-- the first time stands
abbrev pub marks_with : List MarkedLetter → MarkedLetter → List MarkedLetter
marks_with marks m = if is_marked marks m.mark m.handling then marks else marks ++ m ∷ []

-- ---- requests

abbrev pub request_of : Task → plain.Request
request_of (Register address) = plain.Register address
request_of (Read own) = plain.Read own
request_of (Retire own) = plain.Retire own

abbrev pub client_or : Client → Result Client Fault → Client
client_or c (Ok taken) = taken
client_or c (Err fault) = c

-- the client takes a request for this
abbrev pub takes_task : LedgerState → Task → Bool
takes_task s t = is_none (asks.fault_at s.client (request_of t) s.client.current)

abbrev pub asked_of : LedgerState → Task → LedgerState
asked_of s t = record s {
  client = client_or s.client (asks.asked s.client (request_of t));
  refused = None;
}

-- ---- what comes of them

abbrev pub task_in : plain.Request → Option Task
task_in (plain.Register address) = Some (Register address)
task_in (plain.Write target message) = None
task_in (plain.Read own) = Some (Read own)
task_in (plain.Retire own) = Some (Retire own)

abbrev pub task_at : Option Current → Option Task
task_at None = None
task_at (Some now) = task_in now.request

abbrev pub box_at : (number serial address : ℕ) → LedgerBox
box_at number serial address =
    record { address = address; number = number; serial = serial; is_retired = false }

abbrev pub denied_with : LedgerState → ℕ → Denial → LedgerState
denied_with s address denial =
    record s { denied = s.denied ++ record { address = address; denial = denial } ∷ [] }

-- the box of the client's present serial, or that the address is taken or the servers are full
abbrev pub of_register : LedgerState → (serial address : ℕ) → Outcome → LedgerState
of_register s serial address (steps.Registered number) =
    record s { boxes = s.boxes ++ box_at number serial address ∷ [] }
of_register s serial address (steps.Refused (refusal.Taken number)) = denied_with s address Taken
of_register s serial address (steps.Refused (refusal.Full limit)) = denied_with s address Full
of_register s serial address outcome = s

abbrev pub are_zeros : List ℕ → Bool
are_zeros bytes = list_all (λ b. b == 0) bytes

abbrev pub reading_at : (address seconds : ℕ) → List ℕ → Reading
reading_at address seconds bytes = record { address = address; seconds = seconds; bytes = bytes }

-- what the box held, where that is not zeros
abbrev pub reading_with : LedgerState → Option LedgerBox → List ℕ → LedgerState
reading_with s None bytes = s
reading_with s (Some b) bytes =
    if are_zeros bytes then s
    else record s { readings = s.readings ++ reading_at b.address s.seconds bytes ∷ [] }

abbrev pub read_from : LedgerState → (own : ℕ) → List ℕ → LedgerState
read_from s own bytes = reading_with s (slice_get s.boxes own) bytes

abbrev pub of_read : LedgerState → (own : ℕ) → Outcome → LedgerState
of_read s own (steps.Message bytes) = read_from s own bytes
of_read s own outcome = s

abbrev pub retired_in : List LedgerBox → (own : ℕ) → Option LedgerBox → List LedgerBox
retired_in boxes own None = boxes
retired_in boxes own (Some b) = slice_set boxes own (record b { is_retired = true })

abbrev pub retired_at : LedgerState → (own : ℕ) → LedgerState
retired_at s own = record s { boxes = retired_in s.boxes own (slice_get s.boxes own) }

-- what it held, and that it is retired; so it is too where the servers have no such box
abbrev pub of_retire : LedgerState → (own : ℕ) → Outcome → LedgerState
of_retire s own (steps.Message bytes) = retired_at (read_from s own bytes) own
of_retire s own (steps.Refused (refusal.NoBox number)) = retired_at s own
of_retire s own outcome = s

abbrev pub of_task : LedgerState → (serial : ℕ) → Task → Outcome → LedgerState
of_task s serial (Register address) outcome = of_register s serial address outcome
of_task s serial (Read own) outcome = of_read s own outcome
of_task s serial (Retire own) outcome = of_retire s own outcome

abbrev pub ended_by : LedgerState → (serial : ℕ) → Option Task → Progress → LedgerState
ended_by s serial (Some t) (steps.Finished outcome) = of_task s serial t outcome
ended_by s serial task progress = s

-- the client goes on, and of a request that the frame ends there stays what came of it
abbrev pub turned_by : LedgerState → Turn → LedgerState
turned_by s turn =
    ended_by (record s { client = turn.client }) s.client.serial (task_at s.client.current) turn.progress

-- the refusals of which something else is noted: of a register that its address is taken or that the servers
-- are full, and of a retire that they have no such box
abbrev pub is_noted : Task → Refusal → Bool
is_noted (Register address) (refusal.Taken number) = true
is_noted (Register address) (refusal.Full limit) = true
is_noted (Retire own) (refusal.NoBox number) = true
is_noted t r = false

-- any other refusal that ended the request
abbrev pub refusal_in : Task → Outcome → Option Refusal
refusal_in t (steps.Refused r) = if is_noted t r then None else Some r
refusal_in t outcome = None

-- it is taken later, or has ended so; what neither ends it nor puts it off leaves what was told before
abbrev pub refused_by : (before : Option Refusal) → Option Task → Progress → Option Refusal
refused_by before t (steps.Later r) = Some r
refused_by before (Some t) (steps.Finished outcome) = refusal_in t outcome
refused_by before t progress = before

abbrev pub refused_behind : LedgerState → Turn → Option Refusal
refused_behind s turn = refused_by s.refused (task_at s.client.current) turn.progress

abbrev pub heard_by : LedgerState → Turn → LedgerState
heard_by s turn = record (turned_by s turn) { refused = refused_behind s turn }

abbrev pub heard : LedgerState → List ℕ → LedgerState
heard s frame = heard_by s (on_reply s.client frame)

-- ---- of an earlier ledger

-- the client owns the box, where no request is current and there is room for one more
abbrev pub owning_at : Option Current → Option Client → Option Client
owning_at None more = more
owning_at (Some now) more = None

abbrev pub owning : Client → OwnBox → Option Client
owning c b = owning_at c.current (asks.owning c b.number b.serial)

abbrev pub owned_with : LedgerState → OwnBox → Option Client → LedgerState
owned_with s b (Some more) =
    record s { client = more; boxes = s.boxes ++ box_at b.number b.serial b.address ∷ [] }
owned_with s b None = s

abbrev pub owned : LedgerState → OwnBox → LedgerState
owned s b = owned_with s b (owning s.client b)

-- ---- any note

abbrev pub step_of : LedgerState → Noted → LedgerState
step_of s (Named w) = named_with s w
step_of s (Closed name day) = record s { named = changed (closed_on day) name s.named }
step_of s (Retiring name) = record s { named = changed to_retire name s.named }
step_of s (Marked m) = record s { marks = marks_with s.marks m }
step_of s (Asked t) = asked_of s t
step_of s (Time seconds) = record s { seconds = seconds; refused = None }
step_of s (Heard frame) = heard s frame
step_of s GivenUp = record s { client = given_up s.client; refused = None }
step_of s (Owned b) = owned s b
step_of s (Denied d) = record s { denied = s.denied ++ d ∷ [] }
step_of s (Carried r) = record s { readings = s.readings ++ r ∷ [] }

unfoldable pub fold_from : LedgerState → List Noted → LedgerState
fold_from s [] = s
fold_from s (n ∷ notes) = fold_from (step_of s n) notes

-- the ledger that an opening and notes give
abbrev pub ledger_after : Opening → List Noted → LedgerState
ledger_after o notes = fold_from (opened_ledger o) notes
