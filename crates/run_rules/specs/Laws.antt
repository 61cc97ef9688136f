-- How moves keep the relation between the two runs.
use Rattle.std.specs.Prelude.{◌≡◌, ℕ, Some, slice_get}
use Rattle.token_rules.specs.Tokens.{World, Oracle, Token, start}
use Rattle.token_rules.specs.Run as tokens
use Rattle.run_rules.specs.Letters.{Letter, FrameWorld}
use Rattle.run_rules.specs.Run as frames
use Rattle.run_rules.specs.Book.{Book}
use Rattle.run_rules.specs.Follows.{Carries, Follows}
use Rattle.run_rules.specs.Known.{Known}

-- the first world of a run
abbrev pub first : Book → World
first b = start b.settings.width b.settings.boxes b.settings.window b.foreign

-- a token of the pool comes, and its letter, in a world of a run
abbrev pub ComesFollows : Book → Token → Type 0
ComesFollows b t = (o : Oracle) (f : FrameWorld) (v w : World) (i : ℕ) (l : Letter)
    → Known b v w → Known b v (tokens.comes o w t) → slice_get w.pool i ≡ Some t
    → Follows b f w → Carries b t l
    → Follows b (frames.comes f l.to l.bytes) (tokens.comes o w t)
