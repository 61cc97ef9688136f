-- When what follows a frame is a frame too.
use Rattle.std.specs.Prelude.{◌≡◌, ◌≤◌, ℕ, true}
use Rattle.frame_rules.specs.Frames.{PlainFrame, PlainBody}
use Rattle.frame_rules.specs.Kinds.{is_linked}
use Rattle.frame_rules.specs.Spelling.{kind_of, IsBody, IsFrame}
use Rattle.frame_rules.specs.Whole.{is_from_client, IsAnswer}

-- an answer to a client's frame, where its body may answer one
abbrev pub AnswerIsFrame : PlainFrame → PlainBody → PlainFrame → Type 0
AnswerIsFrame f body given = IsFrame f → is_from_client f.body ≡ true → IsAnswer body → IsFrame given

-- what follows a frame with a serial on the link, where number and body are of the link
abbrev pub LinkedIsFrame : PlainFrame → ℕ → PlainBody → PlainFrame → Type 0
LinkedIsFrame f number body given =
    IsFrame f → 1 ≤ f.serial → 1 ≤ number → is_linked (kind_of body) ≡ true → IsBody body → IsFrame given
