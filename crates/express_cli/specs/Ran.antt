-- What one run promises, by its words, by what its input and sink tell before and after it, by what is around
-- it, and by its status.
use Rattle.std.specs.Prelude.{◌≡◌, ◌≢◌, ◌⊎◌, ℕ, ◌+◌, ◌<◌, ◌≤◌, Bool, List, [], ◌∷◌, length, Contains, IfSome}
use Rattle.clap.specs.Words.{Text}
use Rattle.express_words.specs.Causes.{Rose}
use Rattle.express_words.specs.Streams.{TookPrefix}
use Rattle.schedule_text.specs.Spelling.{SpellsSchedule}
use Rattle.schedule_text.specs.declared.schedule.Schedule.{Schedule}
use Rattle.replay_world.specs.Played.{output_of}
use Rattle.express_texts.specs.Batch.{Batch as Pairs}
use Rattle.express_texts.specs.Spelling.{SpellsBatch}
use Rattle.express_texts.specs.declared.cloak.CloakGame.{CloakGame}
use Rattle.express_texts.specs.GameSpelling.{SpellsGame}
use Rattle.express_cli.specs.CommandLine.{Asks, AsksMill, AsksNet, AskSome, AskNothing}
use Rattle.input_reading.specs.Reading.{most_bytes, GaveMore}
use Rattle.express_cli.specs.Batches.{SortsOut, batch_text}
use Rattle.express_cli.specs.Cloaks.{old_view, new_view, cloak_text}
use Rattle.express_cli.specs.Mills.{mill_text}
use Rattle.express_cli.specs.Ends.{IsBad, bad_line, bad_settings, usage_text, read_fault_text, too_long_text}
use Rattle.express_cli.specs.Around.{Around, IsUnread, ReadSome, Streams, Wrote, left_in}
use Rattle.express_cli.specs.Talking.{IsBadKey, IsStill}
use Rattle.express_cli.specs.Runs.{GoesBySettings, MayBreak, MayLeave, RunMay}
use Rattle.express_cli.specs.Runs.{Refused, Talked, WantsMemory, Well, Worked}
use Rattle.express_cli.specs.declared.words.Command.{Command}
use Rattle.express_cli.specs.declared.words.Command.TheVariants.{Replay, Batch, Cloak}
use Rattle.express_cli.specs.declared.words.NetCommand.{NetCommand}
use Rattle.express_cli.specs.declared.words.NetCommand.TheVariants.{Serve, Client, Carry}
use Rattle.express_cli.specs.declared.ends.End.{End}
use Rattle.express_cli.specs.declared.ends.End.TheVariants.{NetFault}

pub record Ran (words : List Text) (streams : Streams) (net : Around) (status : ℕ) : Type 0 where
  -- Where a schedule is to be replayed, the input tells what it has left and the sink its bytes, neither fails
  -- and memory is found, the status is 0 and the output of the schedule that the bytes read spell is written.
  pub headline : Asks words Replay → Well streams status
      → IfSome (left_in streams.input.content) (λ left. (schedule : Schedule) → SpellsSchedule schedule left
      → length left ≤ most_bytes → (status ≡ 0) × Wrote streams (output_of schedule))
  -- Likewise of pairs of closings it is written which a sort of all of them rejects, and how many ranges it
  -- judges.
  pub batch : Asks words Batch → Well streams status
      → IfSome (left_in streams.input.content) (λ left. (pairs : Pairs) → SpellsBatch pairs left
      → length left ≤ most_bytes
      → (status ≡ 0) × ((rejected : List Bool) × (judged : ℕ) × SortsOut pairs rejected judged
      × Wrote streams (batch_text rejected judged)))
  -- Likewise of a game both views are written, which are equal: the viewer's of the one write, and of the
  -- other under the moved choice.
  pub cloak : Asks words Cloak → Well streams status
      → IfSome (left_in streams.input.content) (λ left. (game : CloakGame) → SpellsGame game left
      → length left ≤ most_bytes
      → (status ≡ 0) × (new_view game ≡ old_view game) × Wrote streams (cloak_text game))
  -- Likewise, whatever the command, the first bad line of another text is named, and an input that is too
  -- long is refused.
  pub names_bad_line : (command : Command) → Asks words command → Well streams status
      → IfSome (left_in streams.input.content) (λ left. (n : ℕ) → IsBad command n left → length left ≤ most_bytes
      → (status ≡ 3) × Wrote streams (bad_line n))
  pub refuses_too_long : AskSome words → Well streams status
      → IfSome (left_in streams.input.content) (λ left. most_bytes < length left
      → (status ≡ 8) × Wrote streams too_long_text)
  -- Where the mill of a number is asked for, the sink doesn't fail and memory is found, the text of its run
  -- is written, whatever the input is, which isn't read.
  pub mill : (n : ℕ) → AsksMill words n → ¬ Rose streams.out.faults streams.out_now.faults → status ≢ 7
      → (status ≡ 0) × IsUnread streams × Wrote streams (mill_text n)
  -- Likewise a server of the settings listens, and serves as many connections as they say with one core; the
  -- text tells how many had each answer. Status 6 comes where the listen or an accept failed, which ends the
  -- run.
  pub serve : GoesBySettings Serve words streams net status
  -- Likewise a client of the settings works their requests off, by exchanges with its servers and no other
  -- call; the text tells what became of each. Status 6 comes where an exchange failed, which ends the run.
  pub client : GoesBySettings Client words streams net status
  -- Likewise a carrier of the settings sends its file, a part to each address, or fetches one from its boxes.
  pub carry : GoesBySettings Carry words streams net status
  -- Likewise the first key of other settings that is missing or wrong is named.
  pub names_bad_key : (command : NetCommand) → AsksNet words command → Well streams status
      → IfSome (left_in streams.input.content) (λ left. (key : List ℕ) → IsBadKey command key left
      → length left ≤ most_bytes → (status ≡ 3) × Wrote streams (bad_settings key))
  pub statuses : Contains (0 ∷ 2 ∷ 3 ∷ 4 ∷ 5 ∷ 6 ∷ 7 ∷ 8 ∷ []) status
  -- Only the usage text comes of words that ask for nothing, and the input isn't read.
  pub usage : status ≡ 2 → AskNothing words × IsUnread streams × Wrote streams usage_text
  pub usage_only : AskNothing words → Contains (2 ∷ 5 ∷ 7 ∷ []) status
  pub worked : status ≡ 0 → Worked words streams net
  pub refused : status ≡ 3 → Refused words streams net
  pub read_fault : status ≡ 4 → AskSome words × Rose streams.input.faults streams.input_now.faults
      × ReadSome streams (λ n. n ≤ most_bytes) × Wrote streams read_fault_text
  -- What went out is a part of a text that could have ended the run.
  pub write_fault : status ≡ 5 → Rose streams.out.faults streams.out_now.faults
      × ((end : End) × (text : List ℕ) × RunMay words streams net end text
      × TookPrefix streams.out.written streams.out_now.written text)
  -- Of a client's requests, and of the parts that a carrier sends, all were told by then but the last that
  -- came to its end: the line of each is out before the next is asked. A fetch had worked its requests off,
  -- or a part of them, from the first on, and a front of its text went out. A server that had made more calls
  -- than its listen had told that it listens: that is out before a connection is accepted.
  pub told_in_time : status ≡ 5 → IsStill net ⊎ MayBreak words streams net
  -- An answer that a client or a carrier took for one that ended early had ended: its connection had nothing
  -- left. Of a server's connections `serve` tells what each had left.
  pub early : MayLeave words net
  -- A listen, an accept or an exchange failed, after a part of the output of the command that was asked for.
  pub net_fault : status ≡ 6 → Talked NetFault words streams net
  pub out_of_memory : status ≡ 7 → WantsMemory words streams net
  pub too_long : status ≡ 8 → AskSome words × ReadSome streams (λ n. n ≡ most_bytes + 1)
      × Wrote streams too_long_text
  pub too_long_only : GaveMore streams.input.content streams.input_now.content
      → Contains (8 ∷ 5 ∷ 7 ∷ []) status
  -- No fault is passed over: the input's count rises only where the status is 4 or 5, the sink's only where
  -- it is 5.
  pub source_unfailed : status ≢ 4 → status ≢ 5 → streams.input_now.faults ≡ streams.input.faults
  pub sink_unfailed : status ≢ 5 → streams.out_now.faults ≡ streams.out.faults
