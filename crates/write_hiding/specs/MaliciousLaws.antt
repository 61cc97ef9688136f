-- The laws of a malicious viewer: whatever it opens, its view of the one write is its view of the other under
-- the moved choice.
use Rattle.std.specs.Prelude.{◌≡◌, ◌≢◌, ℕ, ◌^◌, ◌<◌, List, map, length, All, AllPairs}
use Rattle.express_words.specs.declared.audit.Openings.{Openings}
use Rattle.write_hiding.specs.declared.choice.View.{View}
use Rattle.write_hiding.specs.Choices.{PlainChoice, PlainAim, PlainGame, IsChoice, IsAim, IsGame}
use Rattle.write_hiding.specs.Views.{own_opening, view}
use Rattle.write_hiding.specs.Moved.{weight, moved}
use Rattle.write_hiding.specs.Writes.{choice_of}
use Rattle.write_hiding.specs.Laws.{OfTwoWrites, OfAWrite}
use Rattle.write_hiding.specs.Malicious.{malicious_view, MasksCount, malicious_write_view}
use Rattle.write_hiding.specs.Adversaries.{Adversary, IsAdversary, IsAimAt, game_of, seen_by, moved_by}

-- the views are the same, whatever the viewer opens
abbrev pub MaliciousViewsStay : Type 0
MaliciousViewsStay = OfTwoWrites (λ width viewer choice from to game.
    MasksCount game → (sent : Openings) →
    malicious_view viewer sent (moved viewer choice from to game) to game
    ≡ malicious_view viewer sent choice from game)

-- so distinct choices with one view for each opening are taken to as many distinct choices with those views
abbrev pub MaliciousDistinctStay : Type 0
MaliciousDistinctStay =
    (width viewer : ℕ) (choices : List PlainChoice) (from to : PlainAim) (game : PlainGame)
    (seen : Openings → View) →
    viewer < 2 → IsGame game → MasksCount game → All (IsChoice width) choices →
    IsAim width game from → IsAim width game to →
    All (λ c. (sent : Openings) → malicious_view viewer sent c from game ≡ seen sent) choices →
    AllPairs (λ c d. c ≢ d) choices →
    let gone = map (λ c. moved viewer c from to game) choices in
    (length gone ≡ length choices)
    × All (IsChoice width) gone
    × All (λ c. (sent : Openings) → malicious_view viewer sent c to game ≡ seen sent) gone
    × AllPairs (λ c d. c ≢ d) gone

-- u and v count in f and g at every point but 1 and 2
abbrev pub WeightsAreZeroAtOneAndTwo : Type 0
WeightsAreZeroAtOneAndTwo =
    ((sigma : ℕ) → sigma < 2 ^ 128 → sigma ≢ 1 → sigma ≢ 2 → weight sigma ≢ 0)
    × (weight 1 ≡ 0) × (weight 2 ≡ 0)

-- a viewer that opens as its program does has its honest view
abbrev pub HonestOpeningsGiveViews : Type 0
HonestOpeningsGiveViews =
    (viewer : ℕ) (choice : PlainChoice) (aim : PlainAim) (game : PlainGame) →
    malicious_view viewer (own_opening viewer choice aim game) choice aim game ≡ view viewer choice aim game

-- the view of a client's write as a choice is what the viewer gets, whatever it opens
abbrev pub MaliciousWritesAreSeen : Type 0
MaliciousWritesAreSeen = OfAWrite (λ width viewer drawn aim game.
    (sent : Openings) →
    malicious_view viewer sent (choice_of viewer drawn aim) aim game
    ≡ malicious_write_view viewer sent drawn aim game)

-- ---- an adversary that picks the key, the point and what it opens

-- a law of what an adversary plays and sees of two writes to registered addresses
abbrev pub OfTwoPlays : (Adversary → List ℕ → ℕ → ℕ → PlainChoice → PlainAim → PlainAim → Type 0)
    → Type 0
OfTwoPlays Law =
    (adversary : Adversary) (addresses : List ℕ) (width viewer : ℕ) (choice : PlainChoice)
    (from to : PlainAim) →
    IsAdversary adversary → AllPairs (λ p q. p ≢ q) addresses → viewer < 2 → IsChoice width choice →
    IsAimAt width addresses from → IsAimAt width addresses to →
    Law adversary addresses width viewer choice from to

-- it plays the same game
abbrev pub AdversariesPlayTheSame : Type 0
AdversariesPlayTheSame = OfTwoPlays (λ adversary addresses width viewer choice from to.
    let gone = moved_by adversary addresses viewer choice from to in
    game_of adversary addresses viewer gone to ≡ game_of adversary addresses viewer choice from)

-- it sees the same
abbrev pub AdversariesSeeTheSame : Type 0
AdversariesSeeTheSame = OfTwoPlays (λ adversary addresses width viewer choice from to.
    let gone = moved_by adversary addresses viewer choice from to in
    seen_by adversary addresses viewer gone to ≡ seen_by adversary addresses viewer choice from)

-- and the move, which has the form of a choice, is undone by the opposite one
abbrev pub AdversaryMovesReturn : Type 0
AdversaryMovesReturn = OfTwoPlays (λ adversary addresses width viewer choice from to.
    let gone = moved_by adversary addresses viewer choice from to in
    IsChoice width gone × (moved_by adversary addresses viewer gone to from ≡ choice))

-- so as many distinct choices of the one write as of the other let an adversary see the same
abbrev pub DistinctStayForAdversaries : Type 0
DistinctStayForAdversaries =
    (adversary : Adversary) (addresses : List ℕ) (width viewer : ℕ) (choices : List PlainChoice)
    (from to : PlainAim) (game : PlainGame) (seen : View) →
    IsAdversary adversary → AllPairs (λ p q. p ≢ q) addresses → viewer < 2 → All (IsChoice width) choices →
    IsAimAt width addresses from → IsAimAt width addresses to →
    All (λ c. game_of adversary addresses viewer c from ≡ game) choices →
    All (λ c. seen_by adversary addresses viewer c from ≡ seen) choices →
    AllPairs (λ c d. c ≢ d) choices →
    let gone = map (λ c. moved_by adversary addresses viewer c from to) choices in
    (length gone ≡ length choices)
    × All (IsChoice width) gone
    × All (λ c. game_of adversary addresses viewer c to ≡ game) gone
    × All (λ c. seen_by adversary addresses viewer c to ≡ seen) gone
    × AllPairs (λ c d. c ≢ d) gone
