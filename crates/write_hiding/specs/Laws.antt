-- The laws of views: of two writes to registered addresses, with messages of one width, a viewer's view of
-- the one is its view of the other under the moved choice, and the opposite move undoes the move.
use Rattle.std.specs.Prelude.{◌≡◌, ◌≢◌, ℕ, ◌^◌, ◌<◌, ◌≤◌, ◌-◌, List, map, length, All, AllPairs}
use Rattle.dpf_rules.specs.Walk.{leaf_of, state_at}
use Rattle.dpf_rules.specs.Keys.{Expansions, honest_keys, level_word, level_right}
use Rattle.dpf_rules.specs.Ideal.{own_at}
use Rattle.write_hiding.specs.declared.choice.View.{View}
use Rattle.write_hiding.specs.Choices.{PlainChoice, PlainAim, PlainGame, IsChoice, IsAim, IsGame}
use Rattle.write_hiding.specs.Views.{other_end, other_leaf, public_part, view}
use Rattle.write_hiding.specs.Moved.{moved_pair, moved_list, moved}
use Rattle.write_hiding.specs.Writes.{Drawn, IsDrawn, choice_of, write_view}

-- ---- one level

-- the moved pair makes the level's word and right bit
abbrev pub LevelStays : Type 0
LevelStays =
    (word right : ℕ) (raw pair : ℕ × ℕ) (from to : ℕ) → right < 2 → to < 2 →
    let gone = moved_pair word right raw pair from to in
    (level_word raw gone to ≡ word) × (level_right raw gone to ≡ right)

-- the opposite move gives back a pair that made the level's word and right bit
abbrev pub LevelReturns : Type 0
LevelReturns =
    (word right : ℕ) (own raw pair : ℕ × ℕ) (from to : ℕ) → from < 2 → to < 2 →
    let gone = moved_pair word right raw pair from to in
    moved_pair (level_word own pair from) (level_right own pair from) own gone to from ≡ pair

-- ---- the path

-- the viewer's states on the path to the new target are those of its walk under the public part
abbrev pub PathStays : Type 0
PathStays =
    (part : List ℕ) (viewer root : ℕ) (other : Expansions) (from to : ℕ) (message : List ℕ) (i : ℕ) →
    i ≤ 128 →
    let gone = moved_list part viewer root other from to message in
    own_at to viewer root gone i ≡ state_at part viewer root to i

-- the public part
abbrev pub PublicPartStays : Type 0
PublicPartStays =
    (width viewer : ℕ) (choice : PlainChoice) (from to : PlainAim) (game : PlainGame) →
    IsChoice width choice → length from.message ≡ width → length to.message ≡ width →
    public_part viewer (moved viewer choice from to game) to ≡ public_part viewer choice from

-- ---- the whole view

-- a law of two writes to registered addresses
abbrev pub OfTwoWrites : (ℕ → ℕ → PlainChoice → PlainAim → PlainAim → PlainGame → Type 0) → Type 0
OfTwoWrites Law =
    (width viewer : ℕ) (choice : PlainChoice) (from to : PlainAim) (game : PlainGame) →
    viewer < 2 → IsGame game → IsChoice width choice → IsAim width game from → IsAim width game to →
    Law width viewer choice from to game

-- the moved choice has the form that a choice has
abbrev pub ChoicesStay : Type 0
ChoicesStay = OfTwoWrites (λ width viewer choice from to game.
    IsChoice width (moved viewer choice from to game))

-- the views are the same
abbrev pub ViewsStay : Type 0
ViewsStay = OfTwoWrites (λ width viewer choice from to game.
    view viewer (moved viewer choice from to game) to game ≡ view viewer choice from game)

-- the way back
abbrev pub MovesReturn : Type 0
MovesReturn = OfTwoWrites (λ width viewer choice from to game.
    moved viewer (moved viewer choice from to game) to from game ≡ choice)

-- so distinct choices with one view are taken to as many distinct choices with that view
abbrev pub DistinctStay : Type 0
DistinctStay =
    (width viewer : ℕ) (choices : List PlainChoice) (from to : PlainAim) (game : PlainGame) (seen : View) →
    viewer < 2 → IsGame game → All (IsChoice width) choices → IsAim width game from → IsAim width game to →
    All (λ c. view viewer c from game ≡ seen) choices → AllPairs (λ c d. c ≢ d) choices →
    let gone = map (λ c. moved viewer c from to game) choices in
    (length gone ≡ length choices)
    × All (IsChoice width) gone
    × All (λ c. view viewer c to game ≡ seen) gone
    × AllPairs (λ c d. c ≢ d) gone

-- ---- a client's write

-- a law of a write to a registered address
abbrev pub OfAWrite : (ℕ → ℕ → Drawn → PlainAim → PlainGame → Type 0) → Type 0
OfAWrite Law =
    (width viewer : ℕ) (drawn : Drawn) (aim : PlainAim) (game : PlainGame) →
    viewer < 2 → IsDrawn drawn → All (λ n. n < 2 ^ 128) game.addresses → IsAim width game aim →
    Law width viewer drawn aim game

-- a write is a choice
abbrev pub WritesAreChoices : Type 0
WritesAreChoices = OfAWrite (λ width viewer drawn aim game. IsChoice width (choice_of viewer drawn aim))

-- the view of that choice is what the viewer gets
abbrev pub WritesAreSeen : Type 0
WritesAreSeen = OfAWrite (λ width viewer drawn aim game.
    view viewer (choice_of viewer drawn aim) aim game ≡ write_view viewer drawn aim game)

-- ---- its keys and leaves

-- the public part of that choice is a write's honest keys
abbrev pub KeysAreHonest : Type 0
KeysAreHonest =
    (viewer : ℕ) (drawn : Drawn) (aim : PlainAim) → viewer < 2 →
    public_part viewer (choice_of viewer drawn aim) aim
    ≡ honest_keys aim.target aim.message drawn.root0 drawn.root1

-- the end of the other server's path is its leaf at the target
abbrev pub EndsAreLeaves : Type 0
EndsAreLeaves =
    (viewer : ℕ) (drawn : Drawn) (aim : PlainAim) → viewer < 2 →
    let choice = choice_of viewer drawn aim in
    let part = honest_keys aim.target aim.message drawn.root0 drawn.root1 in
    other_end viewer choice aim ≡ leaf_of part (1 - viewer) choice.other_root aim.target

-- and at every address its leaf is that of its walk
abbrev pub LeavesAreHonest : Type 0
LeavesAreHonest =
    (viewer : ℕ) (drawn : Drawn) (aim : PlainAim) (address : ℕ) →
    viewer < 2 → address < 2 ^ 128 → aim.target < 2 ^ 128 →
    let choice = choice_of viewer drawn aim in
    let part = honest_keys aim.target aim.message drawn.root0 drawn.root1 in
    other_leaf viewer choice aim address ≡ leaf_of part (1 - viewer) choice.other_root address
