-- What a server is asked: a frame of an owner's lane, of serial 1.
use Rattle.std.specs.Prelude.{ℕ, ◌+◌, List, replicate}
use Rattle.express_words.specs.Limits.{levels_len}
use Rattle.frame_rules.specs.declared.frame.DepositBody.TheVariants as deposits
use Rattle.frame_rules.specs.Frames.{PlainFrame, PlainBody, Deposit, Read, Write}

abbrev pub of_serial_1 : ℕ → PlainBody → PlainFrame
of_serial_1 lane body = record { lane = lane; serial = 1; link = 0; body = body }

-- a box that no server has
abbrev pub no_box : ℕ
no_box = 4294967295

-- a read of that box: where the lane stands at 0, the leader refuses it for the box
abbrev pub leader_question : ℕ → PlainFrame
leader_question lane = of_serial_1 lane (Read no_box 0)

-- a write with this public part
abbrev pub write_question : ℕ → List ℕ → PlainFrame
write_question lane part = of_serial_1 lane (Write 0 part)

-- a write of zeros, of this width in bytes
abbrev pub width_question : ℕ → ℕ → PlainFrame
width_question lane width = write_question lane (replicate (levels_len + width) 0)

-- a deposit of zeros for a write
abbrev pub helper_question : ℕ → PlainFrame
helper_question lane = of_serial_1 lane (Deposit (deposits.Write 0))
