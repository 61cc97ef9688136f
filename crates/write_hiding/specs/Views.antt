-- What the viewer has of a write: the keys of its own honest and the other server's chosen expansions, and
-- what both servers exchange to audit it. The other server's leaf is the end of its chosen path at the
-- target, and the viewer's leaf elsewhere.
-- Source of the proof: Corrigan-Gibbs and Boneh, "Prio", NSDI 2017, section 4.
use Rattle.std.specs.Prelude.{ℕ, ◌-◌, ◌==◌, List, ◌∷◌, map, bit_xor, if◌then◌else◌}
use Rattle.dpf_rules.specs.Expansion.{challenge_r, challenge_s}
use Rattle.dpf_rules.specs.Walk.{leaf_of}
use Rattle.dpf_rules.specs.Ideal.{ideal_keys, given_at}
use Rattle.express_words.specs.declared.audit.ProofShare.{ProofShare}
use Rattle.express_words.specs.declared.audit.Openings.{Openings}
use Rattle.express_words.specs.declared.audit.Closing.{Closing}
use Rattle.audit_rules.specs.declared.sums.Sums.{Sums}
use Rattle.audit_rules.specs.Audit.{zero_share, one_share, opening_of, opened_of, closing_of}
use Rattle.audit_rules.specs.Challenges.{sums_under}
use Rattle.write_hiding.specs.declared.audit.Audited.{Audited}
use Rattle.write_hiding.specs.declared.choice.View.{View}
use Rattle.write_hiding.specs.declared.choice.IdealChoice.{IdealChoice}
use Rattle.write_hiding.specs.declared.choice.Aim.{Aim}
use Rattle.write_hiding.specs.declared.choice.Game.{Game}
use Rattle.write_hiding.specs.Choices.{PlainChoice, PlainAim, PlainGame, plain_choice, plain_aim, plain_game}

-- ---- the point function

abbrev pub public_part : ℕ → PlainChoice → PlainAim → List ℕ
public_part viewer choice aim = ideal_keys aim.target aim.message viewer choice.own_root choice.other

-- the viewer's leaf of an address
abbrev pub own_leaf : ℕ → PlainChoice → PlainAim → ℕ → ℕ
own_leaf viewer choice aim address = leaf_of (public_part viewer choice aim) viewer choice.own_root address

-- the end of the other server's path
abbrev pub other_end : ℕ → PlainChoice → PlainAim → ℕ
other_end viewer choice aim =
    given_at (public_part viewer choice aim) aim.target (1 - viewer) choice.other_root choice.other 128

-- the other server's leaf of an address
abbrev pub other_leaf : ℕ → PlainChoice → PlainAim → ℕ → ℕ
other_leaf viewer choice aim address =
    if address == aim.target then other_end viewer choice aim else own_leaf viewer choice aim address

-- the difference of both leaves at the target, which is their sum
abbrev pub difference_of : ℕ → PlainChoice → PlainAim → ℕ
difference_of viewer choice aim =
    bit_xor (own_leaf viewer choice aim aim.target) (other_end viewer choice aim)

-- ---- the audit

abbrev pub own_sums : ℕ → PlainChoice → PlainAim → PlainGame → Sums
own_sums viewer choice aim game =
    sums_under game.ckey game.addresses (map (own_leaf viewer choice aim) game.addresses)

abbrev pub other_sums : ℕ → PlainChoice → PlainAim → PlainGame → Sums
other_sums viewer choice aim game =
    sums_under game.ckey game.addresses (map (other_leaf viewer choice aim) game.addresses)

-- the sixteen words that a proof is made of; it doesn't read the first two, which are the roots
abbrev pub drawn : PlainChoice → List ℕ
drawn choice = choice.own_root ∷ (choice.other_root ∷ choice.words)

-- a server's share of the proof
abbrev pub share_of : ℕ → ℕ → PlainChoice → PlainAim → PlainGame → ProofShare
share_of server viewer choice aim game =
    let r = challenge_r game.ckey aim.target in
    let s = challenge_s game.ckey aim.target in
    if server == 0 then zero_share (drawn choice)
    else one_share (difference_of viewer choice aim) r s (drawn choice)

-- the viewer's share of the proof
abbrev pub own_share : ℕ → PlainChoice → PlainAim → PlainGame → ProofShare
own_share viewer choice aim game = share_of viewer viewer choice aim game

-- the other server's
abbrev pub other_share : ℕ → PlainChoice → PlainAim → PlainGame → ProofShare
other_share viewer choice aim game = share_of (1 - viewer) viewer choice aim game

abbrev pub own_opening : ℕ → PlainChoice → PlainAim → PlainGame → Openings
own_opening viewer choice aim game =
    opening_of (own_sums viewer choice aim game) (own_share viewer choice aim game) game.sigma

abbrev pub other_opening : ℕ → PlainChoice → PlainAim → PlainGame → Openings
other_opening viewer choice aim game =
    opening_of (other_sums viewer choice aim game) (other_share viewer choice aim game) game.sigma

abbrev pub other_closing : ℕ → PlainChoice → PlainAim → PlainGame → Closing
other_closing viewer choice aim game =
    closing_of (1 - viewer) (other_share viewer choice aim game) game.sigma
    (opened_of (own_opening viewer choice aim game) (other_opening viewer choice aim game))

-- what both servers open of what they audit, the viewer with its own share and the other with the other
abbrev pub both_opened : Audited → ProofShare → ProofShare → ℕ → Openings
both_opened audited own other sigma =
    opened_of (opening_of audited.own own sigma) (opening_of audited.other other sigma)

-- ---- the view

-- from the client the viewer's root, the public part and its share of the proof; from the other server what
-- that one opens and closes
unfoldable pub view : ℕ → PlainChoice → PlainAim → PlainGame → View
view viewer choice aim game =
    record {
      own_root = choice.own_root;
      public = public_part viewer choice aim;
      proof = own_share viewer choice aim game;
      opened = other_opening viewer choice aim game;
      closed = other_closing viewer choice aim game;
    }

-- the view of a choice that lies in memory
abbrev pub view_of : ℕ → IdealChoice → Aim → Game → View
view_of viewer choice aim game = view viewer (plain_choice choice) (plain_aim aim) (plain_game game)
