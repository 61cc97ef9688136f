-- What is the same at a server that plays beside some writes in one world, and at its twin that plays beside
-- the same writes aimed elsewhere, in another. An address is spared where no write aims at it, here or there.
use Rattle.std.specs.Prelude.{◌≡◌, ℕ, Bool, true, List, length, Option, Some, None}
use Rattle.express_words.specs.declared.audit.ProofShare.{ProofShare}
use Rattle.step_rules.specs.Boxes.{Box}
use Rattle.step_hiding.specs.Worlds.{World}

-- The addresses that are spared; and the shares of the proof of an honest client's write, by its lane and
-- serial, here and there.
pub record Aims : Type 0 where
  pub spared : ℕ → Bool
  pub proofs : (lane serial : ℕ) → Option (ProofShare × ProofShare)

-- an honest write's own shares; anybody else's are the same
abbrev pub SameProofs : Option (ProofShare × ProofShare) → ProofShare → ProofShare → Type 0
SameProofs (Some p) share other = (share ≡ p.0) × (other ≡ p.1)
SameProofs None share other = share ≡ other

-- two worlds
pub record Two : Type 0 where
  pub here : World
  pub there : World
  pub aims : Aims

-- both have the same leaves of spared addresses
abbrev pub SameElsewhere : Two → Type 0
SameElsewhere two =
    (lane serial : ℕ) (part : List ℕ) (root address : ℕ) → two.aims.spared address ≡ true
    → two.here.leaf lane serial part root address ≡ two.there.leaf lane serial part root address

-- two boxes of one address and one key, with one share if they are spared
pub record TwinBoxes (aims : Aims) (box twin : Box) : Type 0 where
  pub address : box.address ≡ twin.address
  pub key : box.key ≡ twin.key
  pub live : box.live ≡ twin.live
  pub size : length box.share ≡ length twin.share
  pub share : aims.spared box.address ≡ true → box.share ≡ twin.share
