-- The other server's leaves of a choice of write_hiding, and of its move.
use Rattle.std.specs.Prelude.{◌≡◌, ℕ, ◌-◌, ◌==◌, ◌&&◌, not, Bool, true, List, length}
use Rattle.express_words.specs.declared.audit.Openings.{Openings}
use Rattle.audit_rules.specs.Values.{Write}
use Rattle.write_hiding.specs.Choices.{PlainChoice, PlainAim, PlainGame}
use Rattle.write_hiding.specs.Views.{public_part, other_leaf, other_share}
use Rattle.write_hiding.specs.Moved.{moved}
use Rattle.write_hiding.specs.Malicious.{MasksCount}
use Rattle.write_hiding.specs.Laws.{OfTwoWrites}
use Rattle.step_hiding.specs.Worlds.{Leaves, values_in}

-- an address at which neither aims
abbrev pub spares : PlainAim → PlainAim → ℕ → Bool
spares from to address = not (address == from.target) && not (address == to.target)

-- the other server's leaves of the write are those of the choice
abbrev pub AreLeavesOf : ℕ → PlainChoice → PlainAim → Leaves → Type 0
AreLeavesOf viewer choice aim leaf =
    (address : ℕ) →
    leaf (public_part viewer choice aim) choice.other_root address ≡ other_leaf viewer choice aim address

-- the write as the other server holds it
abbrev pub write_of : List ℕ → ℕ → PlainGame → Write
write_of part root game =
    record { root = root; part = part; count = length game.addresses; ckey = game.ckey }

-- one root and one public part; the same leaves but at both targets; and the same values, whatever the viewer
-- opens
pub record AreTwinWrites (viewer : ℕ) (choice moved : PlainChoice) (from to : PlainAim) (game : PlainGame)
    (here there : Leaves) : Type 0 where
  pub root : moved.other_root ≡ choice.other_root
  pub part : public_part viewer moved to ≡ public_part viewer choice from
  pub elsewhere : (address : ℕ) → spares from to address ≡ true →
      let part = public_part viewer choice from in
      here part choice.other_root address ≡ there part choice.other_root address
  pub values : (sent : Openings) →
      let part = public_part viewer choice from in
      values_in here (1 - viewer) (write_of part choice.other_root game) game.addresses
      (other_share viewer choice from game) game.sigma sent
      ≡ values_in there (1 - viewer) (write_of part choice.other_root game) game.addresses
      (other_share viewer moved to game) game.sigma sent

abbrev pub MovedChoicesAreTwins : Type 0
MovedChoicesAreTwins = OfTwoWrites (λ width viewer choice from to game.
    MasksCount game → (here there : Leaves) →
    let gone = moved viewer choice from to game in
    AreLeavesOf viewer choice from here → AreLeavesOf viewer gone to there →
    AreTwinWrites viewer choice gone from to game here there)
