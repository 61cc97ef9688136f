-- The grammar of a game, as relations between what is meant and the bytes that spell it.
use Rattle.std.specs.Prelude.{◌≡◌, ◌≢◌, ◌⊎◌, ℕ, ◌+◌, ◌≤◌, ◌%◌, length, List, [], ◌∷◌, ◌++◌, codes, Ok}
use Rattle.std.specs.Prelude.{AllPairs, Contains}
use Rattle.std.specs.Fmt.{decimal}
use Rattle.hex.specs.Hex.{decode_sized}
use Rattle.express_texts.specs.declared.cloak.AimText.{AimText}
use Rattle.express_texts.specs.declared.cloak.CloakGame.{CloakGame}
use Rattle.express_texts.specs.declared.cloak.GameHeader.{GameHeader}
use Rattle.express_texts.specs.Games.{most_addresses}
use Rattle.express_texts.specs.Lines.{AreLines}
use Rattle.express_texts.specs.WordSpelling.{SpellsWord}

-- ---- one line

-- cloak 1 VIEWER WIDTH SEED
pub record SpellsGameHeader (header : GameHeader) (line : List ℕ) : Type 0 where
  pub viewer : header.viewer ≤ 1
  pub least : 16 ≤ header.width
  pub most : header.width ≤ 4096
  pub sixteens : header.width % 16 ≡ 0
  pub digits : List ℕ
  pub seed : decode_sized digits 32 ≡ Ok header.seed
  pub line_is : line ≡ codes "cloak 1 " ++ (decimal header.viewer ++ (codes " " ++ (decimal header.width
      ++ (codes " " ++ digits))))

-- a word and 32 hexadecimal digits
abbrev pub SpellsValueLine : List ℕ → ℕ → List ℕ → Type 0
SpellsValueLine word value line = (digits : List ℕ) × SpellsWord value digits × (line ≡ word ++ digits)

-- a word and 64 hexadecimal digits
abbrev pub SpellsKeyLine : List ℕ → List ℕ → List ℕ → Type 0
SpellsKeyLine word key line = (digits : List ℕ) × (decode_sized digits 32 ≡ Ok key) × (line ≡ word ++ digits)

-- a word, ADDRESS MESSAGE
pub record SpellsAim (word : List ℕ) (width : ℕ) (aim : AimText) (line : List ℕ) : Type 0 where
  pub address : List ℕ
  pub message : List ℕ
  pub address_spelled : SpellsWord aim.address address
  pub message_spelled : decode_sized message width ≡ Ok aim.message
  pub line_is : line ≡ word ++ (address ++ (codes " " ++ message))

-- an address on each line
abbrev pub SpellsAddresses : List ℕ → List (List ℕ) → Type 0
SpellsAddresses [] [] = Unit {0}
SpellsAddresses (a ∷ addresses) (line ∷ lines) =
    SpellsValueLine (codes "address ") a line × SpellsAddresses addresses lines
SpellsAddresses [] (line ∷ lines) = ⊥
SpellsAddresses (a ∷ addresses) [] = ⊥

-- ---- a game

-- the lines of a game, whose targets may be unregistered
pub record SpellsForm (game : CloakGame) (lines : List (List ℕ)) : Type 0 where
  pub first : List ℕ
  pub ckey : List ℕ
  pub sigma : List ℕ
  pub from : List ℕ
  pub to : List ℕ
  pub others : List (List ℕ)
  pub are : lines ≡ first ∷ (ckey ∷ (sigma ∷ (from ∷ (to ∷ others))))
  pub header : SpellsGameHeader (record { viewer = game.viewer; width = game.width; seed = game.seed }) first
  pub ckey_spelled : SpellsKeyLine (codes "ckey ") game.ckey ckey
  pub sigma_spelled : SpellsValueLine (codes "sigma ") game.sigma sigma
  pub from_spelled : SpellsAim (codes "from ") game.width game.old_aim from
  pub to_spelled : SpellsAim (codes "to ") game.width game.new_aim to
  pub addresses : SpellsAddresses game.addresses others
  pub some : 1 ≤ length game.addresses
  pub few : length game.addresses ≤ most_addresses
  pub distinct : AllPairs (λ p q. p ≢ q) game.addresses

-- the text spells the game
pub record SpellsGame (game : CloakGame) (text : List ℕ) : Type 0 where
  pub lines : List (List ℕ)
  pub are : AreLines lines text
  pub form : SpellsForm game lines
  pub from_registered : Contains game.addresses game.old_aim.address
  pub to_registered : Contains game.addresses game.new_aim.address

-- ---- the line that is named

-- Line `place` is missing or doesn't spell what it should; or it does, and line n behind it is the first bad
-- one.
abbrev pub FaultFrom : {A : Type 0} → ℕ → (A → List ℕ → Type 0) → (A → ℕ → List (List ℕ) → Type 0)
    → ℕ → List (List ℕ) → Type 0
FaultFrom place Spells Later n [] = n ≡ place
FaultFrom {A} place Spells Later n (line ∷ lines) =
    ((n ≡ place) × ((a : A) → Spells a line → ⊥)) ⊎ ((a : A) × Spells a line × Later a n lines)

-- No address, one of those before, or one too many.
abbrev pub IsBadAddress : List ℕ → List ℕ → Type 0
IsBadAddress before line =
    (length before ≡ most_addresses)
    ⊎ ((a : ℕ) → SpellsValueLine (codes "address ") a line → Contains before a)

-- Line n is the first bad one of the addresses' lines; there is at least one.
pub record FaultOfAddresses (n : ℕ) (lines : List (List ℕ)) : Type 0 where
  pub before : List (List ℕ)
  pub addresses : List ℕ
  pub spelled : SpellsAddresses addresses before
  pub few : length addresses ≤ most_addresses
  pub distinct : AllPairs (λ p q. p ≢ q) addresses
  pub stop : ((lines ≡ before) × (addresses ≡ []))
      ⊎ ((line : List ℕ) × (behind : List (List ℕ)) × (lines ≡ before ++ line ∷ behind)
      × IsBadAddress addresses line)
  pub place : n ≡ length addresses + 6

-- Line n is the first with a fault of form.
abbrev pub FaultOfForm : ℕ → List (List ℕ) → Type 0
FaultOfForm =
    FaultFrom 1 SpellsGameHeader (λ header.
    FaultFrom 2 (SpellsKeyLine (codes "ckey ")) (λ ckey.
    FaultFrom 3 (SpellsValueLine (codes "sigma ")) (λ sigma.
    FaultFrom 4 (SpellsAim (codes "from ") header.width) (λ from.
    FaultFrom 5 (SpellsAim (codes "to ") header.width) (λ to. FaultOfAddresses)))))

-- The line of a target that isn't registered.
abbrev pub IsUnregistered : ℕ → CloakGame → Type 0
IsUnregistered n game =
    ((n ≡ 4) × (Contains game.addresses game.old_aim.address → ⊥))
    ⊎ ((n ≡ 5) × Contains game.addresses game.old_aim.address
    × (Contains game.addresses game.new_aim.address → ⊥))

-- Line n is the one to name: the first with a fault of form, or else that of a target that isn't registered.
abbrev pub IsFirstBadGameLine : ℕ → List ℕ → Type 0
IsFirstBadGameLine n text =
    (lines : List (List ℕ)) × AreLines lines text
    × (FaultOfForm n lines ⊎ ((game : CloakGame) × SpellsForm game lines × IsUnregistered n game))
