-- What the proofs of the commands that work on the input, and of the mill, share.
use Rattle.std.proofs.Common.{◌≡◌, ℕ, ◌+◌, ◌-◌, ◌<◌, ◌≤◌, List, [], ◌++◌, Option, length, suc, arith, ap}
use Rattle.std.specs.Prelude.{flat_map}
use Rattle.std.specs.List.{range_with_len}
use Rattle.std.proofs.lemmas.List.{length-map}
use Rattle.dpf_rules.specs.Expansion.{draw32}
use Rattle.replay_world.specs.declared.lines.JournalLine.{JournalLine}
use Rattle.replay_world.specs.Parts.{journal_in, line_in}
use Rattle.express_cli.specs.Cloaks.{draws}
use Rattle.express_cli.specs.Ends.{BadLineMay, IsBad, PrintsBy, SaidOrWants, WorkMay, out_of_memory_text}
use Rattle.express_cli.specs.declared.words.Command.{Command}
use Rattle.express_cli.specs.declared.ends.End.{End}
use Rattle.express_cli.specs.declared.ends.End.TheVariants.{OutOfMemory}
use Rattle.express_cli.proofs.Writing.{more_may}

pub journal_length : (lines : List JournalLine) → length (journal_in lines) ≡ length lines
journal_length lines = length-map lines line_in

pub draws_next : (seed : List ℕ) (a b : ℕ) → a < b → draws seed a b ≡ draw32 seed a ++ draws seed (a + 1) b
unfolding draws
draws_next seed a b below =
    let more : b - a ≡ suc (b - (a + 1)) = omega arith in ap (λ n. flat_map (draw32 seed) (range_with_len a n)) more

pub draws_none : (seed : List ℕ) (a b : ℕ) → b ≤ a → draws seed a b ≡ []
unfolding draws
draws_none seed a b within =
    let none : b - a ≡ 0 = omega arith in ap (λ n. flat_map (draw32 seed) (range_with_len a n)) none

-- where this end with this text may come, and want of memory
pub said_or_wants : (May : End → List ℕ → Type 0) (old new : Option (List ℕ)) (before now : ℕ) (end result : End) (text : List ℕ)
    → May end text → May OutOfMemory out_of_memory_text → PrintsBy (SaidOrWants end text) old new before now result → PrintsBy May old new before now result
said_or_wants May old new before now end result text may wants h =
    more_may (SaidOrWants end text) May old new before now result (λ e t says. grind arith) h

-- where the first bad line is said, or want of memory
pub bad_line_said : (command : Command) (bytes : List ℕ) (old new : Option (List ℕ)) (before now n : ℕ) (result : End)
    → IsBad command n bytes → PrintsBy (BadLineMay n) old new before now result → PrintsBy (WorkMay command bytes) old new before now result
bad_line_said command bytes old new before now n result bad h =
    more_may (BadLineMay n) (WorkMay command bytes) old new before now result (λ e t says. grind arith) h
