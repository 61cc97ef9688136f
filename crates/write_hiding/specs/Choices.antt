-- What is chosen of a write where one server, the viewer, can't tell the other server's expansions from
-- drawn ones: the ideal experiment of a point function's security.
-- Source: Boyle, Gilboa and Ishai, "Function Secret Sharing: Improvements and Extensions", CCS 2016,
-- section 3.
use Rattle.std.specs.Prelude.{◌≡◌, ◌≢◌, ℕ, ◌^◌, ◌<◌, List, length, All, AllPairs, Contains}
use Rattle.dpf_rules.specs.Keys.{Expansions}
use Rattle.dpf_rules.specs.Ideal.{IsExpansions}
use Rattle.write_hiding.specs.declared.choice.IdealChoice.{IdealChoice}
use Rattle.write_hiding.specs.declared.choice.Aim.{Aim}
use Rattle.write_hiding.specs.declared.choice.Game.{Game}

-- both roots, the other server's expansions, and the words of the proof: u of server 0 and 1, v of both,
-- server 0's h, a of both, b of both, and server 0's c
pub record PlainChoice : Type 0 where
  pub own_root : ℕ
  pub other_root : ℕ
  pub other : Expansions
  pub words : List ℕ

-- where a write goes, and what it puts there
pub record PlainAim : Type 0 where
  pub target : ℕ
  pub message : List ℕ

-- the registered addresses, the key of the challenges, and the proof's point
pub record PlainGame : Type 0 where
  pub addresses : List ℕ
  pub ckey : List ℕ
  pub sigma : ℕ

-- ---- their form

-- a choice for messages of a width
pub record IsChoice (width : ℕ) (choice : PlainChoice) : Type 0 where
  pub own_root : choice.own_root < 2 ^ 128
  pub other_root : choice.other_root < 2 ^ 128
  pub other : IsExpansions width choice.other
  pub size : length choice.words ≡ 14
  pub words : All (λ n. n < 2 ^ 128) choice.words

-- an aim at a registered address
pub record IsAim (width : ℕ) (game : PlainGame) (aim : PlainAim) : Type 0 where
  pub registered : Contains game.addresses aim.target
  pub size : length aim.message ≡ width
  pub bytes : All (λ b. b < 256) aim.message

pub record IsGame (game : PlainGame) : Type 0 where
  pub distinct : AllPairs (λ p q. p ≢ q) game.addresses
  pub sigma : game.sigma < 2 ^ 128

-- ---- without where their parts lie in memory

-- what a choice has beside its viewer
abbrev pub plain_choice : IdealChoice → PlainChoice
plain_choice choice = record {
  own_root = choice.own_root;
  other_root = choice.other_root;
  other = record { pairs = choice.levels; block = choice.last_block };
  words = choice.words;
}

abbrev pub plain_aim : Aim → PlainAim
plain_aim aim = record { target = aim.target; message = aim.message.now }

abbrev pub plain_game : Game → PlainGame
plain_game game = record { addresses = game.addresses.now; ckey = game.ckey; sigma = game.sigma }
