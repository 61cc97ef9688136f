-- What is known of the worlds of one whole run.
use Rattle.std.specs.Prelude.{◌≡◌, ℕ}
use Rattle.token_rules.specs.Tokens.{World}
use Rattle.token_rules.specs.Run.{sent_of}
use Rattle.token_rules.specs.Lawful.{Lawful}
use Rattle.token_rules.specs.Since.{Since}
use Rattle.run_rules.specs.Book.{Book}
use Rattle.run_rules.specs.Follows.{Sound, Within}

-- the world at the end of the run: the history is its own
pub record IsWhole (b : Book) (v : World) : Type 0 where
  pub lawful : Lawful v
  pub limit : v.limit ≡ b.settings.boxes
  pub width : v.width ≡ b.settings.width
  pub window : v.window ≡ b.settings.window
  pub foreign : v.foreign ≡ b.foreign
  pub sent : (c : ℕ) → sent_of v c ≡ b.sent c
  pub commands : v.commands ≡ b.commands
  pub journal : v.journal ≡ b.entries

-- a world of the run, from which moves lead on to its end
pub record Known (b : Book) (v w : World) : Type 0 where
  pub sound : Sound b
  pub whole : IsWhole b v
  pub lawful : Lawful w
  pub since : Since w v
  pub within : Within b w
