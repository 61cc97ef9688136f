-- What a run comes to.
use Rattle.std.specs.Prelude.{◌≡◌, ◌≢◌, ℕ, ◌+◌, ◌≤◌, ◌⊎◌, List, length, IfSome}
use Rattle.express_words.specs.Causes.{Rose}
use Rattle.clap.specs.Words.{Text}
use Rattle.express_cli.specs.CommandLine.{Asks, AsksMill, AsksNet, AskSome, AskNothing}
use Rattle.input_reading.specs.Reading.{GaveSome, most_bytes}
use Rattle.express_cli.specs.Mills.{mill_text}
use Rattle.express_cli.specs.Ends.{IsBad, IsOutput, Prints, WorkMay, bad_line, usage_text, read_fault_text}
use Rattle.express_cli.specs.Ends.{out_of_memory_text, too_long_text}
use Rattle.express_cli.specs.Around.{Around, IsUnread, Read, Seen, Streams, Wrote, left_in}
use Rattle.express_cli.specs.Talking.{BreaksBy, IsStill, LeavesNothing, Spells, TalkMay, Talks, WantsFirst}
use Rattle.express_cli.specs.Talking.{duty_of}
use Rattle.express_cli.specs.declared.words.Command.{Command}
use Rattle.express_cli.specs.declared.words.NetCommand.{NetCommand}
use Rattle.express_cli.specs.declared.ends.End.{End}
use Rattle.express_cli.specs.declared.ends.End.TheVariants.{Done, Usage, BadLine, BadKey, ReadFault}
use Rattle.express_cli.specs.declared.ends.End.TheVariants.{WriteFault, NetFault, OutOfMemory, TooLong}

-- An input that showed the first before and shows the second now wasn't read to its end, or memory was
-- wanting.
abbrev pub UnreadMay : (old new : Seen) → End → List ℕ → Type 0
UnreadMay old new ReadFault text =
    Rose old.faults new.faults × GaveSome old.content new.content (λ n. n ≤ most_bytes)
    × (text ≡ read_fault_text)
UnreadMay old new TooLong text =
    GaveSome old.content new.content (λ n. n ≡ most_bytes + 1) × (text ≡ too_long_text)
UnreadMay old new OutOfMemory text = text ≡ out_of_memory_text
UnreadMay old new other text = ⊥

-- an end that comes before any call on a net
abbrev pub WaitsForNet : End → Type 0
WaitsForNet Usage = Unit {0}
WaitsForNet (BadLine n) = Unit {0}
WaitsForNet BadKey = Unit {0}
WaitsForNet ReadFault = Unit {0}
WaitsForNet TooLong = Unit {0}
WaitsForNet other = ⊥

-- The words ask for a command, the input gave all its bytes, and the command's work on them may come to this.
abbrev pub MayWork : List Text → Streams → End → List ℕ → Type 0
MayWork words streams end text =
    (command : Command) × Asks words command
    × ((bytes : List ℕ) × Read streams bytes × WorkMay command bytes end text)

-- likewise of a command over a net
abbrev pub MayTalk : List Text → Streams → Around → End → List ℕ → Type 0
MayTalk words streams net end text =
    (command : NetCommand) × AsksNet words command
    × ((bytes : List ℕ) × Read streams bytes × TalkMay command bytes net end text)

-- Work or talk was done; or the words ask for the mill of a number, the input wasn't read, and this is the
-- mill's text.
abbrev pub MayDo : List Text → Streams → Around → List ℕ → Type 0
MayDo words streams net text = MayWork words streams Done text ⊎ (MayTalk words streams net Done text
    ⊎ ((n : ℕ) × AsksMill words n × IsUnread streams × (text ≡ mill_text n)))

-- What a run comes to, by its words, and by what its input and its net show before and now.
abbrev pub RunMay : List Text → Streams → Around → End → List ℕ → Type 0
RunMay words streams net Usage text = AskNothing words × IsUnread streams × (text ≡ usage_text)
RunMay words streams net ReadFault text =
    AskSome words × UnreadMay streams.input streams.input_now ReadFault text
RunMay words streams net TooLong text =
    AskSome words × UnreadMay streams.input streams.input_now TooLong text
RunMay words streams net (BadLine n) text = MayWork words streams (BadLine n) text
RunMay words streams net BadKey text = MayTalk words streams net BadKey text
RunMay words streams net Done text = MayDo words streams net text
RunMay words streams net NetFault text = MayTalk words streams net NetFault text
RunMay words streams net OutOfMemory text = WantsFirst net text ⊎ MayTalk words streams net OutOfMemory text
RunMay words streams net WriteFault text = MayTalk words streams net WriteFault text
RunMay words streams net other text = ⊥

-- what a command over a net that the words ask for leaves on the connection that it closed last
abbrev pub MayLeave : List Text → Around → Type 0
MayLeave words net = (command : NetCommand) → AsksNet words command → LeavesNothing command net

-- By a command over a net that the words ask for so much was told: the input gave all its bytes, and they
-- tell its settings.
abbrev pub MayBreak : List Text → Streams → Around → Type 0
MayBreak words streams net =
    (command : NetCommand) → AsksNet words command
    → (bytes : List ℕ) × Read streams bytes × BreaksBy (duty_of command) bytes net streams.out streams.out_now

-- Of what may come of the run one came and its text was written; or the sink failed after a part of such a
-- text.
abbrev pub ComesTo : List Text → Streams → Around → End → Type 0
ComesTo words streams net end = Prints (RunMay words streams net) streams.out streams.out_now end

-- how a run ends, what was told by then, and what it leaves
pub record RunEnds (words : List Text) (streams : Streams) (net : Around) (end : End) : Type 0 where
  pub talks : Talks (RunMay words streams net) (MayBreak words streams net) (MayLeave words net) net
      streams.out streams.out_now end

-- ---- where input and sink tell their bytes

-- nothing kept a run from its work: neither the input nor the sink failed, and memory was found
pub record Well (streams : Streams) (status : ℕ) : Type 0 where
  pub source : ¬ Rose streams.input.faults streams.input_now.faults
  pub sink : ¬ Rose streams.out.faults streams.out_now.faults
  pub memory : status ≢ 7

-- The input gave all its bytes, and what a command that the words ask for writes of them was written.
abbrev pub WorkedOnAll : List Text → Streams → Type 0
WorkedOnAll words streams =
    (command : Command) × Asks words command
    × ((bytes : List ℕ) × Read streams bytes
    × ((text : List ℕ) × IsOutput command bytes text × Wrote streams text))

-- The words asked for a command over a net, the input gave all its bytes, and what came of the command at
-- this end was written.
abbrev pub Talked : End → List Text → Streams → Around → Type 0
Talked end words streams net = (text : List ℕ) × MayTalk words streams net end text × Wrote streams text

-- What the words ask for was done and written; for the text of a mill the input wasn't read.
abbrev pub Worked : List Text → Streams → Around → Type 0
Worked words streams net = WorkedOnAll words streams ⊎ (Talked Done words streams net
    ⊎ ((n : ℕ) × AsksMill words n × IsUnread streams × Wrote streams (mill_text n)))

-- The input gave all its bytes, and their first bad line was named, or the first bad key of settings.
abbrev pub Refused : List Text → Streams → Around → Type 0
Refused words streams net =
    ((command : Command) × Asks words command
    × ((bytes : List ℕ) × Read streams bytes
    × ((n : ℕ) × IsBad command n bytes × Wrote streams (bad_line n))))
    ⊎ Talked BadKey words streams net

-- Memory was wanting before any call on a net, and that alone was told; or of a command over a net, behind
-- what was told before.
abbrev pub WantsMemory : List Text → Streams → Around → Type 0
WantsMemory words streams net =
    (Wrote streams out_of_memory_text × IsStill net) ⊎ Talked OutOfMemory words streams net

-- A command over a net that nothing else kept from its work was done, or a fault of the net broke it off; by
-- the status its text was written.
abbrev pub Told : (End → List ℕ → Type 0) → Streams → ℕ → Type 0
Told May streams status = (text : List ℕ) × Wrote streams text
    × (((status ≡ 0) × May Done text) ⊎ ((status ≡ 6) × May NetFault text))

-- Where this command is asked for, the input tells what it has left and the sink its bytes, neither fails and
-- memory is found, this comes of the settings that the bytes read spell.
abbrev pub GoesBySettings : NetCommand → List Text → Streams → Around → ℕ → Type 0
GoesBySettings command words streams net status = AsksNet words command → Well streams status
    → IfSome (left_in streams.input.content) (λ left. (settings : (duty_of command).Settings)
    → Spells command settings left → length left ≤ most_bytes
    → Told ((duty_of command).May settings net) streams status)
