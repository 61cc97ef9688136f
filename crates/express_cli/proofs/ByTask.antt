-- What came of a run, by what its words ask for, and what its input gave.
use Rattle.std.proofs.Common.{◌≡◌, ◌≢◌, ◌⊎◌, ℕ, ◌≤◌, List, length, Option, Some, None, IfSome, inl, inr, refl, arith, append-nil, length-append}
use Rattle.clap.specs.Words.{Text}
use Rattle.express_words.specs.Causes.{Rose}
use Rattle.express_words.specs.Streams.{Stream, left_in}
use Rattle.input_reading.specs.Reading.{GaveAll, most_bytes}
use Rattle.express_cli.specs.CommandLine.{AskFor, AskSome, Asks}
use Rattle.express_cli.specs.Ends.{IsBad, IsOutput, MillMay, WorkMay, status_of}
use Rattle.express_cli.specs.Around.{Around, IsUnread, Read, Streams, Wrote}
use Rattle.express_cli.specs.Talking.{TalkMay}
use Rattle.express_cli.specs.Runs.{ComesTo, GoesBySettings, RunMay, UnreadMay, Well}
use Rattle.express_cli.specs.declared.words.Command.{Command}
use Rattle.express_cli.specs.declared.words.InputTask.{InputTask}
use Rattle.express_cli.specs.declared.words.InputTask.TheVariants.{Work, Net}
use Rattle.express_cli.specs.declared.words.NetCommand.{NetCommand}
use Rattle.express_cli.specs.declared.words.Task.{Task}
use Rattle.express_cli.specs.declared.words.Task.TheVariants.{OnInput, Mill}
use Rattle.express_cli.specs.declared.ends.End.{End}
use Rattle.express_cli.specs.declared.ends.End.TheVariants as ends
use Rattle.express_cli.proofs.OneReading.{same_task}
use Rattle.express_cli.proofs.Settling.{work_end}
use Rattle.express_cli.proofs.Writing.{written}

-- ---- what was asked for

-- what may come of a task on these bytes
abbrev pub OfInput : InputTask → List ℕ → Around → End → List ℕ → Type 0
OfInput (Work command) bytes net end text = WorkMay command bytes end text
OfInput (Net command) bytes net end text = TalkMay command bytes net end text

-- what may come of a task: of all bytes of the input, but a mill reads none
abbrev pub OfTask : Task → Streams → Around → End → List ℕ → Type 0
OfTask (OnInput task) streams net end text = (bytes : List ℕ) × Read streams bytes × OfInput task bytes net end text
OfTask (Mill n) streams net end text = IsUnread streams × MillMay n end text

-- the input wasn't read to its end, or the task was done
abbrev pub MetBy : Task → List Text → Streams → Around → End → List ℕ → Type 0
MetBy task words streams net end text =
    (AskSome words × UnreadMay streams.input streams.input_now end text) ⊎ OfTask task streams net end text

-- so it came of the one that is asked for, unless memory was wanting
of_task : (words : List Text) (streams : Streams) (net : Around) (end : End) (text : List ℕ) (task : Task)
    → AskFor words task → status_of end ≢ 7 → RunMay words streams net end text → MetBy task words streams net end text
of_task words streams net ends.Usage text task asks memory (none, same, is) = absurd (none task asks)
of_task words streams net ends.ReadFault text task asks memory may = inl may
of_task words streams net ends.TooLong text task asks memory may = inl may
of_task words streams net ends.OutOfMemory text task asks memory may = absurd (memory refl)
of_task words streams net ends.Done text task asks memory (inr (inr (n, found, same, is))) = inr (rw (same_task words task (Mill n) asks found) (same, is))
of_task words streams net ends.Done text task asks memory (inr (inl (command, found, did))) = inr (rw (same_task words task (OnInput (Net command)) asks found) did)
of_task words streams net ends.Done text task asks memory (inl (command, found, did)) = inr (rw (same_task words task (OnInput (Work command)) asks found) did)
of_task words streams net (ends.BadLine n) text task asks memory (command, found, did) = inr (rw (same_task words task (OnInput (Work command)) asks found) did)
of_task words streams net ends.BadKey text task asks memory (command, found, did) = inr (rw (same_task words task (OnInput (Net command)) asks found) did)
of_task words streams net ends.NetFault text task asks memory (command, found, did) = inr (rw (same_task words task (OnInput (Net command)) asks found) did)
of_task words streams net ends.WriteFault text task asks memory (command, found, did) = inr (rw (same_task words task (OnInput (Net command)) asks found) did)
of_task words streams net _ text task asks memory may = absurd may

-- and its text was written, where the sink didn't fail
pub met : (words : List Text) (streams : Streams) (net : Around) (end : End) (task : Task) → ComesTo words streams net end → AskFor words task
    → ¬ Rose streams.out.faults streams.out_now.faults → status_of end ≢ 7 → (text : List ℕ) × MetBy task words streams net end text × Wrote streams text × (end ≢ ends.WriteFault)
met words streams net end task comes asks sink memory =
    let wrote = written (RunMay words streams net) streams.out streams.out_now end comes sink in
    (wrote.0, of_task words streams net end wrote.0 task asks memory wrote.1, wrote.2, wrote.3)

-- ---- what an input that tells its bytes gave

pub if_some : {A : Type 0} {P : A → Type 0} (from : Option A) → ((value : A) → from ≡ Some value → P value) → IfSome from P
if_some None h = tt
if_some (Some value) h = h value refl

-- where it gave all its bytes, they are those that it had left
pub gave_left : (from to : Option Stream) (left bytes : List ℕ) → left_in from ≡ Some left → GaveAll from to bytes → bytes ≡ left
gave_left from to left bytes is all = grind (arith, append-nil)

-- an input that wasn't read to its end was too long, unless it failed
pub not_unread : (streams : Streams) (left : List ℕ) (end : End) (text : List ℕ) → left_in streams.input.content ≡ Some left → Well streams (status_of end) → length left ≤ most_bytes
    → UnreadMay streams.input streams.input_now end text → ⊥
not_unread streams left end text is well short may = grind (arith, length-append)

-- ---- a task that reads it

-- what came of one that is asked for was written
pub input_done : (words : List Text) (streams : Streams) (net : Around) (end : End) (task : InputTask) (left : List ℕ) → ComesTo words streams net end → AskFor words (OnInput task) → Well streams (status_of end)
    → left_in streams.input.content ≡ Some left → length left ≤ most_bytes → (text : List ℕ) × OfInput task left net end text × Wrote streams text × (end ≢ ends.WriteFault)
input_done words streams net end task left comes asks well is short =
    let did = met words streams net end (OnInput task) comes asks well.sink well.memory in (
      did.0,
      (elim did.1 [
        | inl unread ↦ absurd (not_unread streams left end did.0 is well short unread.1)
        | inr read ↦ rw (gave_left streams.input.content streams.input_now.content left read.0 is read.1) at read.2
      ]),
      did.2,
      did.3,
    )

-- where no line is bad, work on it is done
pub work_done : (words : List Text) (streams : Streams) (net : Around) (end : End) (command : Command) (left : List ℕ) → ComesTo words streams net end → Asks words command → Well streams (status_of end)
    → left_in streams.input.content ≡ Some left → length left ≤ most_bytes → ((n : ℕ) → IsBad command n left → ⊥) → (text : List ℕ) × (status_of end ≡ 0) × IsOutput command left text × Wrote streams text
work_done words streams net end command left comes asks well is short good =
    let did = input_done words streams net end (Work command) left comes asks well is short in
    let done : (status_of end ≡ 0) × IsOutput command left did.0 = grind arith in
    (did.0, done.0, done.1, did.2)

-- by good settings it is done, or a fault of the net broke it off
pub by_settings : (command : NetCommand) (words : List Text) (streams : Streams) (net : Around) (end : End) → ComesTo words streams net end → GoesBySettings command words streams net (status_of end)
by_settings command words streams net end comes asks well = if_some (left_in streams.input.content) (λ left is settings spells short.
    let did = input_done words streams net end (Net command) left comes asks well is short in
    (did.0, did.2, grind (arith, work_end)))
