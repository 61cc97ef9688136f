-- An adversary that is one of the two servers, with whatever is in league with it: it picks what it sends by
-- what it has seen up to then.
use Rattle.std.specs.Prelude.{◌≢◌, ℕ, ◌^◌, ◌<◌, List, []}
use Rattle.express_words.specs.declared.audit.ProofShare.{ProofShare}
use Rattle.express_words.specs.declared.audit.Openings.{Openings}
use Rattle.write_hiding.specs.declared.choice.View.{View}
use Rattle.write_hiding.specs.Choices.{PlainChoice, PlainAim, PlainGame, IsAim}
use Rattle.write_hiding.specs.Views.{public_part, own_share, other_opening}
use Rattle.write_hiding.specs.Malicious.{malicious_view}
use Rattle.write_hiding.specs.Moved.{moved}

-- the key of the challenges by its root and the public part, the point by its share of the proof too, and
-- what it opens by what the other server opened
pub record Adversary : Type 0 where
  pub ckey : ℕ → List ℕ → List ℕ
  pub sigma : ℕ → List ℕ → ProofShare → ℕ
  pub sent : ℕ → List ℕ → ProofShare → Openings → Openings

-- no point that it picks is 1 or 2
pub record IsAdversary (adversary : Adversary) : Type 0 where
  pub range : (root : ℕ) (part : List ℕ) (share : ProofShare) → adversary.sigma root part share < 2 ^ 128
  pub one : (root : ℕ) (part : List ℕ) (share : ProofShare) → adversary.sigma root part share ≢ 1
  pub two : (root : ℕ) (part : List ℕ) (share : ProofShare) → adversary.sigma root part share ≢ 2

-- the game that it plays at these addresses: the client and the other server have one key of it
abbrev pub game_of : Adversary → List ℕ → ℕ → PlainChoice → PlainAim → PlainGame
game_of adversary addresses viewer choice aim =
    let part = public_part viewer choice aim in
    let ckey = adversary.ckey choice.own_root part in
    let keyed : PlainGame = record { addresses = addresses; ckey = ckey; sigma = 0 } in
    let share = own_share viewer choice aim keyed in
    record { addresses = addresses; ckey = ckey; sigma = adversary.sigma choice.own_root part share }

-- what it sees
abbrev pub seen_by : Adversary → List ℕ → ℕ → PlainChoice → PlainAim → View
seen_by adversary addresses viewer choice aim =
    let game = game_of adversary addresses viewer choice aim in
    let part = public_part viewer choice aim in
    let share = own_share viewer choice aim game in
    let sent = adversary.sent choice.own_root part share (other_opening viewer choice aim game) in
    malicious_view viewer sent choice aim game

-- the choice moved in that game
abbrev pub moved_by : Adversary → List ℕ → ℕ → PlainChoice → PlainAim → PlainAim → PlainChoice
moved_by adversary addresses viewer choice from to =
    moved viewer choice from to (game_of adversary addresses viewer choice from)

-- an aim at one of the addresses
abbrev pub IsAimAt : ℕ → List ℕ → PlainAim → Type 0
IsAimAt width addresses aim = IsAim width (record { addresses = addresses; ckey = []; sigma = 0 }) aim
