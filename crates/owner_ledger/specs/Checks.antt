-- What both servers of a pair say of the owner's lane.
use Rattle.std.specs.Prelude.{◌≡◌, ◌+◌, ℕ, List, max, Option, Result, Ok, Err}
use denote.Bor.{Bor}
use Rattle.express_words.specs.Calls.{Call}
use Rattle.express_words.specs.declared.role.Role.{Role}
use Rattle.express_words.specs.declared.role.Role.TheVariants.{Leader, Helper}
use Rattle.frame_rules.specs.Frames.{PlainFrame}
use Rattle.door_exchange.specs.declared.exchanging.Broken.{Broken}
use Rattle.desk_sheets.specs.declared.sheet.OwnersServer.{OwnersServer}
use Rattle.desk_sheets.specs.declared.sheet.Pair.{Pair}
use Rattle.owner_check.specs.Answers.{Asks}
use Rattle.owner_check.specs.Questions.{helper_question, leader_question, width_question}
use Rattle.owner_check.specs.declared.found.Found.{Found}
use Rattle.owner_check.specs.declared.found.Found.TheVariants as found
use Rattle.desk_around.specs.Halts.{unanswered}
use Rattle.desk_around.specs.declared.trouble.Trouble.{Trouble}
use Rattle.desk_around.specs.declared.trouble.Trouble.TheVariants as trouble

-- at which serial the lane stands by what a server told, or why that isn't known
abbrev pub standing_by : Role → (path : Bor (List ℕ)) → Result Found Broken → Result ℕ Trouble
standing_by server path (Ok (found.Stands serial)) = Ok serial
standing_by server path (Ok found.OtherWidth) = Err (trouble.OtherWidth path)
standing_by server path (Ok found.OtherServer) = Err (trouble.Swapped path)
standing_by server path (Ok found.NotYours) = Err (trouble.NotYours server)
standing_by server path (Ok found.Other) = Err (trouble.NoAnswer server)
standing_by server path (Err why) = Err (unanswered server why)

-- The server was asked this in one exchange, and this came of it.
pub record SaysOf (role : Role) (server : OwnersServer) (question : PlainFrame) (path : Bor (List ℕ))
    (result : Result ℕ Trouble) (before now : Option (List Call)) : Type 0 where
  pub told : Result Found Broken
  pub asks : Asks server question told before now
  pub is : result ≡ standing_by role path told

-- above what either server has of the lane, and above what the questions used of it
abbrev pub first_above : (leader helper : ℕ) → ℕ
first_above leader helper = max 1 (max leader helper) + 1

-- The leader was asked whether the lane is this owner's, and for its width, then the helper, each with the
-- owner's key for it; both say so, and the desk's requests begin above what they had of the lane.
pub record ChecksPair (pair : Pair) (path : Bor (List ℕ)) (first : ℕ) (before now : Option (List Call))
    : Type 0 where
  pub at_leader : ℕ
  pub at_width : ℕ
  pub at_helper : ℕ
  pub asked : Option (List Call)
  pub measured : Option (List Call)
  pub leader : SaysOf Leader pair.leader (leader_question pair.lane) path (Ok at_leader) before asked
  pub width : SaysOf Leader pair.leader (width_question pair.lane pair.width) path (Ok at_width) asked measured
  pub helper : SaysOf Helper pair.helper (helper_question pair.lane) path (Ok at_helper) measured now
  pub first_is : first ≡ first_above at_leader at_helper
