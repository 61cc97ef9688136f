-- What a server is asked: a frame on a lane that none has, since there are 256 at most. Its width is judged first, where
-- it has one, and then its lane.
use Rattle.std.specs.Prelude.{◌≡◌, ◌⊎◌, ℕ, ◌+◌, List, replicate}
use Rattle.express_words.specs.Limits.{levels_len}
use Rattle.frame_rules.specs.declared.frame.DepositBody.TheVariants as deposits
use Rattle.frame_rules.specs.Frames.{PlainFrame, PlainBody, Deposit, Write}

abbrev pub on_no_lane : PlainBody → PlainFrame
on_no_lane body = record { lane = 65535; serial = 1; link = 0; body = body }

-- a write with this public part
abbrev pub write_question : List ℕ → PlainFrame
write_question part = on_no_lane (Write 0 part)

-- the leader is asked by a write of zeros, of this width in bytes
abbrev pub leader_question : ℕ → PlainFrame
leader_question width = write_question (replicate (levels_len + width) 0)

-- and the helper by a deposit of zeros for a write
abbrev pub helper_question : PlainFrame
helper_question = on_no_lane (Deposit (deposits.Write 0))

abbrev pub IsQuestion : PlainFrame → Type 0
IsQuestion q = ((width : ℕ) × (q ≡ leader_question width)) ⊎ (q ≡ helper_question)
