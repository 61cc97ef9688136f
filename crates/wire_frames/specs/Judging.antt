-- Bytes that were judged.
use Rattle.std.specs.Prelude.{◌≡◌, List, ℕ, Result, Ok, Err, IfOk, IfErr}
use Rattle.express_words.specs.declared.refusal.Refusal.{Refusal}
use Rattle.frame_rules.specs.Frames.{plain}
use Rattle.frame_rules.specs.Spelling.{IsFrame, Spells}
use Rattle.frame_rules.specs.Whole.{whole, refused_bytes}
use Rattle.frame_rules.specs.declared.frame.Frame.{Frame}

-- the frame that the bytes are, or what a server refuses of them, which can be answered
pub record IsJudged (bytes : List ℕ) (judged : Result Frame Refusal) : Type 0 where
  pub frame : IfOk judged (λ f. whole bytes ≡ Ok (plain f))
  pub spelled : IfOk judged (λ f. Spells (plain f) bytes)
  pub refused : IfErr judged (λ r. whole bytes ≡ Err r)
  pub is_refusal : IfErr judged (λ r. IsFrame (refused_bytes r))
