-- What a server's answer to a question says.
use Rattle.std.specs.Prelude.{◌≡◌, ℕ, ◌==◌, if◌then◌else◌, List, Option, Result, Ok, Err}
use Rattle.express_words.specs.Calls.{Call}
use Rattle.express_words.specs.Causes.{Rose}
use Rattle.express_words.specs.declared.refusal.Refusal.TheVariants.{Lane, Malformed}
use Rattle.frame_rules.specs.declared.fault.FrameFault.{FrameFault}
use Rattle.frame_rules.specs.Frames.{PlainBody, PlainFrame, Refused}
use Rattle.frame_rules.specs.Reading.{decoded}
use Rattle.frame_rules.specs.Spelling.{spelling}
use Rattle.node_exchange.specs.declared.exchanging.Broken.{Broken}
use Rattle.node_exchange.specs.declared.exchanging.Broken.TheVariants as broken
use Rattle.node_exchange.specs.Exchanging.{ExchangeOn}
use Rattle.pair_check.specs.declared.found.Found.{Found}
use Rattle.pair_check.specs.declared.found.Found.TheVariants.{Lanes, OtherWidth, Other}

-- A server refuses a frame of another width as malformed at 0, and one on a lane that it doesn't have by the number of
-- its lanes.
abbrev pub found_by : PlainBody → Found
found_by (Refused (Lane lanes)) = Lanes lanes
found_by (Refused (Malformed place)) = if place == 0 then OtherWidth else Other
found_by body = Other

abbrev pub found_in : Result (PlainFrame × ℕ) FrameFault → Found
found_in (Ok (frame, count)) = found_by frame.body
found_in (Err fault) = Other

-- what came of a question, where this came of its exchange
abbrev pub told_by : Result (List ℕ) Broken → Result Found Broken
told_by (Ok reply) = Ok (found_in (decoded reply))
told_by (Err why) = Err why

-- The server at this place is asked by this frame, in one exchange, and this came of it.
pub record Asks (place : List ℕ) (question : PlainFrame) (told : Result Found Broken)
    (before now : Option (List Call)) : Type 0 where
  pub answer : Result (List ℕ) Broken
  pub exchange : ExchangeOn place (record { sent = spelling question; answer = answer }) before now
  pub is : told ≡ told_by answer

-- The net's count of faults rose where one is told, and only then.
abbrev pub CountBy : Result Found Broken → (before now : ℕ) → Type 0
CountBy (Err (broken.Fault count)) before now = Rose before now × (count ≡ now)
CountBy other before now = now ≡ before
