-- What a server's answer adds to the journal and to the pool.
use Rattle.std.specs.Prelude.{ℕ, List, [], ◌∷◌, Option, Some, None, Result, Ok, Err}
use Rattle.express_words.specs.declared.refusal.Refusal.{Refusal}
use Rattle.frame_rules.specs.Frames.{PlainFrame}
use Rattle.frame_rules.specs.Spelling.{spelling}
use Rattle.frame_rules.specs.Whole.{whole}
use Rattle.step_rules.specs.Helper as helper
use Rattle.run_rules.specs.Letters as run
use Rattle.run_rules.specs.Letters.{Letter, letter, ToLeaderLink}
use Rattle.run_rules.specs.Run.{journal_line}
use Rattle.replay_world.specs.declared.lines.JournalLine.{JournalLine}
use Rattle.replay_world.specs.Parts.{line_in}

-- the line, if there is one
abbrev pub lines_in : Option JournalLine → List run.JournalLine
lines_in (Some line) = line_in line ∷ []
lines_in None = []

abbrev pub lines_for : Result PlainFrame Refusal → PlainFrame → List run.JournalLine
lines_for (Ok command) reply = journal_line command reply ∷ []
lines_for (Err r) reply = []

-- a command that was carried out now has its line
abbrev pub noted : List ℕ → helper.Answer → List run.JournalLine
noted bytes (helper.Carried reply) = lines_for (whole bytes) reply
noted bytes (helper.Repeated kept) = []
noted bytes helper.Ignored = []

abbrev pub replied : helper.Answer → List Letter
replied (helper.Carried reply) = letter ToLeaderLink (spelling reply) ∷ []
replied (helper.Repeated kept) = letter ToLeaderLink kept ∷ []
replied helper.Ignored = []
