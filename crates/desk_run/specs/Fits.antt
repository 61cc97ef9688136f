-- Whether the servers of a pair are as its pair file says.
use Rattle.std.specs.Prelude.{◌≡◌, ℕ, ◌<◌, max, List, Option, Ok}
use Rattle.express_words.specs.Calls.{Call}
use Rattle.desk_texts.specs.declared.sheet.Head.TheVariants as head
use Rattle.desk_texts.specs.declared.sheet.PairHead.{PairHead}
use Rattle.desk_texts.specs.declared.sheet.Sheet.{Sheet}
use Rattle.pair_check.specs.declared.found.Found.{Found}
use Rattle.pair_check.specs.declared.found.Found.TheVariants.{Lanes}
use Rattle.pair_check.specs.Answers.{Asks}
use Rattle.pair_check.specs.Questions.{helper_question, leader_question}

-- the last lane that a pair file names
abbrev pub last_lane : PairHead → ℕ
last_lane h = max h.lane h.to

-- what a server says of itself is what the pair file says
abbrev pub Fits : PairHead → Found → Type 0
Fits h (Lanes lanes) = last_lane h < lanes
Fits h _ = ⊥

-- The leader at this place is asked once, and is as the pair file says.
pub record LeaderFits (place : List ℕ) (h : PairHead) (before now : Option (List Call)) : Type 0 where
  pub found : Found
  pub asks : Asks place (leader_question h.width) (Ok found) before now
  pub fits : Fits h found

-- The helper is.
pub record HelperFits (place : List ℕ) (h : PairHead) (before now : Option (List Call)) : Type 0 where
  pub found : Found
  pub asks : Asks place helper_question (Ok found) before now
  pub fits : Fits h found

-- The leader and then the helper of a pair file are asked once, and both are as it says.
pub record FitsPair (s : Sheet) (h : PairHead) (before now : Option (List Call)) : Type 0 where
  pub mid : Option (List Call)
  pub leader : LeaderFits s.leader h before mid
  pub helper : HelperFits s.helper h mid now

-- the same of some pair file
abbrev pub ChecksPair : (before now : Option (List Call)) → Type 0
ChecksPair before now = (s : Sheet) × (h : PairHead) × (s.head ≡ head.Pair h) × FitsPair s h before now
