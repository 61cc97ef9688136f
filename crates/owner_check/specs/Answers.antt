-- What a server's answer to a question says.
use Rattle.std.specs.Prelude.{◌≡◌, ℕ, ◌==◌, if◌then◌else◌, List, Option, Result, Ok, Err}
use Rattle.express_words.specs.Calls.{Call}
use Rattle.express_words.specs.Causes.{Rose}
use Rattle.express_words.specs.declared.refusal.Refusal.{Refusal}
use Rattle.express_words.specs.declared.refusal.Refusal.TheVariants as refusals
use Rattle.frame_rules.specs.declared.fault.FrameFault.{FrameFault}
use Rattle.frame_rules.specs.Frames as frame
use Rattle.frame_rules.specs.Frames.{PlainBody, PlainFrame}
use Rattle.frame_rules.specs.Reading.{decoded}
use Rattle.frame_rules.specs.Spelling.{spelling}
use Rattle.http_door.specs.Replies as reply
use Rattle.http_door.specs.Replies.{PlainReply}
use Rattle.http_door.specs.Requests as request
use Rattle.door_exchange.specs.declared.exchanging.Broken.{Broken}
use Rattle.door_exchange.specs.declared.exchanging.Broken.TheVariants as broken
use Rattle.door_exchange.specs.Exchanging.{ExchangeOn}
use Rattle.desk_sheets.specs.declared.sheet.OwnersServer.{OwnersServer}
use Rattle.owner_check.specs.declared.found.Found.{Found}
use Rattle.owner_check.specs.declared.found.Found.TheVariants.{Stands, OtherWidth, OtherServer}
use Rattle.owner_check.specs.declared.found.Found.TheVariants.{NotYours, Other}
use Rattle.owner_check.specs.Questions.{no_box}

-- A lane above serial 1 refuses as stale, one at 0 for the box. At 1 it is in a phase, or gives an answer
-- that it kept. Of another width a frame is malformed at 0; of a kind that the pair's other server takes,
-- at 5.
abbrev pub found_for : Refusal → Found
found_for (refusals.Stale serial) = Stands serial
found_for (refusals.NoBox number) = if number == no_box then Stands 0 else Stands 1
found_for (refusals.Malformed place) =
    if place == 0 then OtherWidth else (if place == 5 then OtherServer else Other)
found_for (refusals.Version version) = Other
found_for (refusals.Lane limit) = Other
found_for (refusals.Again number) = Other
found_for (refusals.LinkDown count) = Other
found_for refusal = Stands 1

abbrev pub found_by : PlainBody → Found
found_by (frame.Refused refusal) = found_for refusal
found_by (frame.Held proof) = Stands 1
found_by (frame.Challenge ckey) = Stands 1
found_by (frame.Registered number) = Stands 1
found_by frame.Accepted = Stands 1
found_by (frame.Message zero one) = Stands 1
found_by body = Other

abbrev pub found_of : Result (PlainFrame × ℕ) FrameFault → Found
found_of (Ok (f, count)) = found_by f.body
found_of (Err fault) = Other

abbrev pub found_in : PlainReply → Found
found_in (reply.Frame bytes) = found_of (decoded bytes)
found_in reply.NotYours = NotYours
found_in other = Other

-- what came of a question, where this came of its exchange
abbrev pub told_by : Result PlainReply Broken → Result Found Broken
told_by (Ok reply) = Ok (found_in reply)
told_by (Err why) = Err why

-- The server is asked at its place by this frame, with the lane's key, in one exchange, and this came of it.
pub record Asks (server : OwnersServer) (question : PlainFrame) (told : Result Found Broken)
    (before now : Option (List Call)) : Type 0 where
  pub answer : Result PlainReply Broken
  pub exchange : ExchangeOn server.place
      (record { asked = request.Frame server.key (spelling question); answer = answer }) before now
  pub is : told ≡ told_by answer

-- The net's count of faults rose where one is told, and only then.
abbrev pub CountBy : Result Found Broken → (before now : ℕ) → Type 0
CountBy (Err (broken.Fault count)) before now = Rose before now × (count ≡ now)
CountBy other before now = now ≡ before
