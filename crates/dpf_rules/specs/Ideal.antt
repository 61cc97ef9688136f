-- Keys where the expansions of one server, the viewer, are honest, and those of the other are any list of
-- that form: what the viewer can tell of a write if the other server's expansions look ideal to it.
use Rattle.std.specs.Prelude.{◌≡◌, ℕ, zero, suc, ◌^◌, ◌<◌, ◌==◌, List, length, All, if◌then◌else◌}
use Rattle.dpf_rules.specs.Expansion.{with_bit}
use Rattle.dpf_rules.specs.Walk.{word_of, right_of, side_at, corrected, step}
use Rattle.dpf_rules.specs.Keys.{Expansions, pair_at, on_side, level_word, level_right, keys, raw_pair}
use Rattle.dpf_rules.specs.Keys.{honest}

-- each member of each pair is a number of 128 bits
abbrev pub HasStates : Expansions → Type 0
HasStates e = (i : ℕ) → (((pair_at e i).0 < 2 ^ 128) × ((pair_at e i).1 < 2 ^ 128))

-- the form of a list of expansions at a width
pub record IsExpansions (width : ℕ) (e : Expansions) : Type 0 where
  pub levels : length e.pairs ≡ 128
  pub states : HasStates e
  pub size : length e.block ≡ width
  pub bytes : All (λ b. b < 256) e.block

-- the viewer's state at level i of the path to the target: each level is corrected by what it makes with
-- the other's pair
unfoldable pub own_at : ℕ → ℕ → ℕ → Expansions → ℕ → ℕ
own_at target viewer root other zero = with_bit root viewer
own_at target viewer root other (suc i) =
    let side = side_at target i in
    let own = own_at target viewer root other i in
    let raw = raw_pair own in
    step (level_word raw (pair_at other i) side) (level_right raw (pair_at other i) side) side own

-- the public part, each server's list in its place
unfoldable pub ideal_keys : ℕ → List ℕ → ℕ → ℕ → Expansions → List ℕ
ideal_keys target message viewer root other =
    let own = honest (own_at target viewer root other) (length message) in
    if viewer == 0 then keys target message own other else keys target message other own

-- the state at level i of the path to the target of a server whose raw pairs are given
unfoldable pub given_at : List ℕ → ℕ → ℕ → ℕ → Expansions → ℕ → ℕ
given_at part target server root e zero = with_bit root server
given_at part target server root e (suc i) =
    let side = side_at target i in
    let state = given_at part target server root e i in
    corrected (word_of part i) (right_of part i) side (on_side (pair_at e i) side) state
