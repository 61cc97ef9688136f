-- An honest write that is aimed elsewhere by its move.
use Rattle.std.specs.Prelude.{◌≡◌, ℕ, ◌<◌, Bool}
use Rattle.write_hiding.specs.Choices.{PlainAim}
use Rattle.write_hiding.specs.Views.{public_part, own_share}
use Rattle.run_sights.specs.Histories.{HonestWrite, moved_to}
use Rattle.run_sights.specs.Suppositions.{MayMove}

-- What its client sends is the same: to the viewer its root, the public part and its share of the proof; and
-- to the honest server that one's root.
pub record SameFrames (viewer : ℕ) (w v : HonestWrite) : Type 0 where
  pub root : v.choice.own_root ≡ w.choice.own_root
  pub part : public_part viewer v.choice v.aim ≡ public_part viewer w.choice w.aim
  pub proof : own_share viewer v.choice v.aim v.game ≡ own_share viewer w.choice w.aim w.game
  pub deposit : v.choice.other_root ≡ w.choice.other_root

-- a law of an honest write and another aim of it
abbrev pub OfAMove : (ℕ → (ℕ → Bool) → ℕ → HonestWrite → PlainAim → Type 0) → Type 0
OfAMove Law =
    (width : ℕ) (spared : ℕ → Bool) (viewer : ℕ) (w : HonestWrite) (other : PlainAim) →
    viewer < 2 → MayMove width spared w other → Law width spared viewer w other

abbrev pub WritesTellTheSame : Type 0
WritesTellTheSame = OfAMove (λ width spared viewer w other. SameFrames viewer w (moved_to viewer w other))

-- the moved write may be moved, and the opposite move gives the write back
abbrev pub WritesReturn : Type 0
WritesReturn = OfAMove (λ width spared viewer w other.
    let gone = moved_to viewer w other in
    MayMove width spared gone w.aim × (moved_to viewer gone w.aim ≡ w))
