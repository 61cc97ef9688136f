-- A client's write as a choice, and what a server gets of it.
use Rattle.std.specs.Prelude.{◌≡◌, ℕ, ◌^◌, ◌<◌, ◌==◌, List, ◌∷◌, length, All, if◌then◌else◌}
use Rattle.dpf_rules.specs.Expansion.{challenge_r, challenge_s}
use Rattle.dpf_rules.specs.Keys.{honest, path_at, honest_keys}
use Rattle.dpf_rules.specs.Evaluation.{difference_at}
use Rattle.audit_rules.specs.Audit.{zero_share, one_share}
use Rattle.audit_rules.specs.Values.{Write, opens, values}
use Rattle.write_hiding.specs.declared.choice.View.{View}
use Rattle.write_hiding.specs.Choices.{PlainChoice, PlainAim, PlainGame}

-- what a client draws for a write: both roots, and the fourteen words of its proof
pub record Drawn : Type 0 where
  pub root0 : ℕ
  pub root1 : ℕ
  pub words : List ℕ

pub record IsDrawn (d : Drawn) : Type 0 where
  pub root0 : d.root0 < 2 ^ 128
  pub root1 : d.root1 < 2 ^ 128
  pub size : length d.words ≡ 14
  pub words : All (λ n. n < 2 ^ 128) d.words

-- the choice of a write: the other server's expansions are honest
unfoldable pub choice_of : ℕ → Drawn → PlainAim → PlainChoice
choice_of viewer d aim =
    let path = path_at aim.target d.root0 d.root1 in
    let zero = honest (λ i. (path i).0) (length aim.message) in
    let one = honest (λ i. (path i).1) (length aim.message) in
    if viewer == 0 then record { own_root = d.root0; other_root = d.root1; other = one; words = d.words }
    else record { own_root = d.root1; other_root = d.root0; other = zero; words = d.words }

-- what the viewer gets: the keys and its share of the proof from the client, and from the other server that
-- one's values of the audit, each server with its own leaves
unfoldable pub write_view : ℕ → Drawn → PlainAim → PlainGame → View
write_view viewer d aim game =
    let part = honest_keys aim.target aim.message d.root0 d.root1 in
    let drawn = d.root0 ∷ (d.root1 ∷ d.words) in
    let m = difference_at part d.root0 d.root1 aim.target in
    let share0 = zero_share drawn in
    let share1 = one_share m (challenge_r game.ckey aim.target) (challenge_s game.ckey aim.target) drawn in
    let count = length game.addresses in
    let write0 : Write = record { root = d.root0; part = part; count = count; ckey = game.ckey } in
    let write1 : Write = record { root = d.root1; part = part; count = count; ckey = game.ckey } in
    let opened0 = opens 0 write0 game.addresses share0 game.sigma in
    let opened1 = opens 1 write1 game.addresses share1 game.sigma in
    let values0 = values 0 write0 game.addresses share0 game.sigma opened1 in
    let values1 = values 1 write1 game.addresses share1 game.sigma opened0 in
    if viewer == 0 then record {
      own_root = d.root0;
      public = part;
      proof = share0;
      opened = values1.opened;
      closed = values1.closing;
    }
    else record {
      own_root = d.root1;
      public = part;
      proof = share1;
      opened = values0.opened;
      closed = values0.closing;
    }
