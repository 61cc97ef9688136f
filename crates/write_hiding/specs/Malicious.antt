-- What a malicious viewer has of a write: one that opens to the other server whatever it likes.
-- Source of the term: Goldreich, "Foundations of Cryptography", volume 2, 2004, section 7.2.3. Eskandarian,
-- Corrigan-Gibbs, Zaharia and Boneh, "Express", USENIX Security 2021, ask for privacy against one malicious
-- server.
use Rattle.std.specs.Prelude.{◌≡◌, ◌≢◌, ℕ, ◌-◌, ◌==◌, ◌∷◌, length, if◌then◌else◌}
use Rattle.dpf_rules.specs.Expansion.{challenge_r, challenge_s}
use Rattle.dpf_rules.specs.Keys.{honest_keys}
use Rattle.dpf_rules.specs.Evaluation.{difference_at}
use Rattle.express_words.specs.declared.audit.Openings.{Openings}
use Rattle.express_words.specs.declared.audit.Closing.{Closing}
use Rattle.audit_rules.specs.Audit.{zero_share, one_share, opened_of, closing_of}
use Rattle.audit_rules.specs.Values.{Write, values}
use Rattle.write_hiding.specs.declared.choice.View.{View}
use Rattle.write_hiding.specs.declared.choice.IdealChoice.{IdealChoice}
use Rattle.write_hiding.specs.declared.choice.Aim.{Aim}
use Rattle.write_hiding.specs.declared.choice.Game.{Game}
use Rattle.write_hiding.specs.Choices.{PlainChoice, PlainAim, PlainGame, plain_choice, plain_aim, plain_game}
use Rattle.write_hiding.specs.Views.{public_part, own_share, other_share, other_opening}
use Rattle.write_hiding.specs.Writes.{Drawn}

-- what the other server closes where the viewer opens this
abbrev pub malicious_closing : ℕ → Openings → PlainChoice → PlainAim → PlainGame → Closing
malicious_closing viewer sent choice aim game =
    closing_of (1 - viewer) (other_share viewer choice aim game) game.sigma
    (opened_of sent (other_opening viewer choice aim game))

-- the view of a viewer that opens this
unfoldable pub malicious_view : ℕ → Openings → PlainChoice → PlainAim → PlainGame → View
malicious_view viewer sent choice aim game =
    record {
      own_root = choice.own_root;
      public = public_part viewer choice aim;
      proof = own_share viewer choice aim game;
      opened = other_opening viewer choice aim game;
      closed = malicious_closing viewer sent choice aim game;
    }

-- the point is none of those at which f and g are sums, so that a alone would mask what is opened of them
pub record MasksCount (game : PlainGame) : Type 0 where
  pub one : game.sigma ≢ 1
  pub two : game.sigma ≢ 2

-- Of one choice at its aim and another at its own, which lie in memory, the viewer has the same view at such
-- a point, whatever it opens.
abbrev pub SameMaliciousViews : ℕ → Game → (one : IdealChoice) → Aim → (other : IdealChoice) → Aim
    → Type 0
SameMaliciousViews viewer game one at other there =
    let rules = plain_game game in
    MasksCount rules → (sent : Openings) →
    malicious_view viewer sent (plain_choice one) (plain_aim at) rules
    ≡ malicious_view viewer sent (plain_choice other) (plain_aim there) rules

-- what the viewer gets of a client's write: its keys and its share of the proof from the client, and the
-- other server's values of the audit, by that one's own leaves, where this was opened to it
unfoldable pub malicious_write_view : ℕ → Openings → Drawn → PlainAim → PlainGame → View
malicious_write_view viewer sent d aim game =
    let part = honest_keys aim.target aim.message d.root0 d.root1 in
    let drawn = d.root0 ∷ (d.root1 ∷ d.words) in
    let m = difference_at part d.root0 d.root1 aim.target in
    let share0 = zero_share drawn in
    let share1 = one_share m (challenge_r game.ckey aim.target) (challenge_s game.ckey aim.target) drawn in
    let count = length game.addresses in
    let write0 : Write = record { root = d.root0; part = part; count = count; ckey = game.ckey } in
    let write1 : Write = record { root = d.root1; part = part; count = count; ckey = game.ckey } in
    let values0 = values 0 write0 game.addresses share0 game.sigma sent in
    let values1 = values 1 write1 game.addresses share1 game.sigma sent in
    if viewer == 0 then record {
      own_root = d.root0;
      public = part;
      proof = share0;
      opened = values1.opened;
      closed = values1.closing;
    }
    else record {
      own_root = d.root1;
      public = part;
      proof = share1;
      opened = values0.opened;
      closed = values0.closing;
    }
