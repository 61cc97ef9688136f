-- The choice by which another write gives the viewer the same view. The other server's u and v take up the
-- change of its sums, so that f and g have the values at the point that they had. Then its a, b and c stay:
-- of these a viewer that opens what it likes learns a sum of products. At 1 and 2, where u and v don't count,
-- a and b take up the change, for a viewer that opens as its program does.
use Rattle.std.specs.Prelude.{◌≡◌, ℕ, ◌+◌, ◌-◌, ◌%◌, ◌==◌, List, [], ◌∷◌, ◌++◌, map, length}
use Rattle.std.specs.Prelude.{slice_index, bit_xor}
use Rattle.std.specs.Prelude.{if◌then◌else◌}
use Rattle.std.specs.List.{range_with_len}
use Rattle.express_words.specs.Bytes.{xor_bytes}
use Rattle.tower_numbers.specs.Levels.{inverse_at}
use Rattle.dpf_rules.specs.Expansion.{with_bit, block, challenge_r, challenge_s}
use Rattle.dpf_rules.specs.Walk.{word_of, right_of, last_of, side_at, state_at}
use Rattle.dpf_rules.specs.Keys.{Expansions, pair_at, on_side, raw_pair}
use Rattle.audit_rules.specs.Audit.{product, value, through_three, honest_f, honest_g}
use Rattle.tower_laws.specs.Polynomials.{plus_of, times_of}
use Rattle.audit_rules.specs.declared.sums.Sums.{Sums}
use Rattle.express_words.specs.declared.audit.ProofShare.{ProofShare}
use Rattle.write_hiding.specs.declared.choice.View.{View}
use Rattle.write_hiding.specs.declared.choice.IdealChoice.{IdealChoice}
use Rattle.write_hiding.specs.declared.choice.Aim.{Aim}
use Rattle.write_hiding.specs.declared.choice.Game.{Game}
use Rattle.write_hiding.specs.declared.audit.Audited.{Audited}
use Rattle.write_hiding.specs.Choices.{PlainChoice, PlainAim, PlainGame, plain_choice, plain_aim, plain_game}
use Rattle.write_hiding.specs.Views.{public_part, difference_of, other_sums}
use Rattle.write_hiding.specs.Views.{drawn, own_share, other_opening, view}

-- ---- the expansions

-- the pair that makes a level's word and right bit with the viewer's raw pair. The seed bits that a pair
-- had on the side `from`, which was kept, stand on the side `to`, which is kept now
unfoldable pub moved_pair : ℕ → ℕ → ℕ × ℕ → ℕ × ℕ → ℕ → ℕ → ℕ × ℕ
moved_pair word right raw pair from to =
    let kept = on_side pair from in
    let lost = bit_xor word (on_side raw (1 - to)) in (
      with_bit (if to == 0 then kept else lost) ((word + raw.0 + to + 1) % 2),
      with_bit (if to == 0 then lost else kept) ((right + raw.1 + to) % 2),
    )

-- the pair of level i along the viewer's walk to the address `to`, where the other server's walk went to
-- `from`
abbrev pub moved_at : List ℕ → ℕ → ℕ → Expansions → ℕ → ℕ → ℕ → ℕ × ℕ
moved_at part viewer root other from to i =
    let raw = raw_pair (state_at part viewer root to i) in
    moved_pair (word_of part i) (right_of part i) raw (pair_at other i) (side_at from i) (side_at to i)

-- the pairs of all levels
abbrev pub moved_pairs : List ℕ → ℕ → ℕ → Expansions → ℕ → ℕ → List (ℕ × ℕ)
moved_pairs part viewer root other from to =
    map (moved_at part viewer root other from to) (range_with_len 0 128)

-- the expansions that make a public part along the viewer's walk to an address
unfoldable pub moved_list : List ℕ → ℕ → ℕ → Expansions → ℕ → ℕ → List ℕ → Expansions
moved_list part viewer root other from to message =
    let end = state_at part viewer root to 128 in
    record {
      pairs = moved_pairs part viewer root other from to;
      block = xor_bytes (xor_bytes (last_of part) (block (length message) end)) message;
    }

-- ---- a mask of f or g

-- what a polynomial's value at 0 counts in its value at a point, where those at 1 and 2 are given: the value
-- at the point of the polynomial that is 1 at 0, and 0 at 1 and 2
abbrev pub weight : ℕ → ℕ
weight sigma = value (through_three 1 0 0) sigma

-- the mask by which the polynomial that has the values to1 and to2 at 1 and 2 has the value at sigma that it
-- had with this mask and the values at1 and at2. Where a mask counts nothing it stays, since the inverse of 0
-- is 0
unfoldable pub moved_mask : ℕ → ℕ → ℕ → ℕ → ℕ → ℕ → ℕ
moved_mask sigma mask at1 at2 to1 to2 =
    let change = value (through_three 0 (bit_xor at1 to1) (bit_xor at2 to2)) sigma in
    bit_xor mask (product (inverse_at 7 (weight sigma)) change)

-- the other server's u and v, which mask its f and g, moved by the sums that it audited before and those that
-- it audits after the move
abbrev pub u_by_sums : ℕ → List ℕ → ℕ → (were are : Sums) → ℕ
u_by_sums viewer words sigma were are =
    moved_mask sigma (slice_index words (1 - viewer)) were.x were.m are.x are.m

abbrev pub v_by_sums : ℕ → List ℕ → ℕ → (were are : Sums) → ℕ
v_by_sums viewer words sigma were are =
    moved_mask sigma (slice_index words (2 + (1 - viewer))) were.y were.z are.y are.z

-- ---- the words

-- the choice with its expansions moved, and its words as they were
abbrev pub walked : ℕ → PlainChoice → PlainAim → PlainAim → PlainChoice
walked viewer choice from to =
    let part = public_part viewer choice from in
    record choice {
      other = moved_list part viewer choice.own_root choice.other from.target to.target to.message;
    }

-- the sums that the other server audits of the moved expansions
abbrev pub moved_sums : ℕ → PlainChoice → PlainAim → PlainAim → PlainGame → Sums
moved_sums viewer choice from to game = other_sums viewer (walked viewer choice from to) to game

-- the other server's u and v
abbrev pub moved_u : ℕ → PlainChoice → PlainAim → PlainAim → PlainGame → ℕ
moved_u viewer choice from to game =
    let sums = other_sums viewer choice from game in
    u_by_sums viewer choice.words game.sigma sums (moved_sums viewer choice from to game)

abbrev pub moved_v : ℕ → PlainChoice → PlainAim → PlainAim → PlainGame → ℕ
moved_v viewer choice from to game =
    let sums = other_sums viewer choice from game in
    v_by_sums viewer choice.words game.sigma sums (moved_sums viewer choice from to game)

-- the other server's a and b, by which it opens what it opened
abbrev pub moved_a : ℕ → PlainChoice → PlainAim → PlainAim → PlainGame → ℕ
moved_a viewer choice from to game =
    let gone = moved_sums viewer choice from to game in
    let f = through_three (moved_u viewer choice from to game) gone.x gone.m in
    bit_xor (other_opening viewer choice from game).d (value f game.sigma)

abbrev pub moved_b : ℕ → PlainChoice → PlainAim → PlainAim → PlainGame → ℕ
moved_b viewer choice from to game =
    let gone = moved_sums viewer choice from to game in
    let g = through_three (moved_v viewer choice from to game) gone.y gone.z in
    bit_xor (other_opening viewer choice from game).e (product game.sigma (value g game.sigma))

-- the words with server 1's u, v, a and b replaced
abbrev pub with_one : List ℕ → ℕ → ℕ → ℕ → ℕ → List ℕ
with_one words u v a b =
    let word = slice_index words in
    let masks = word 0 ∷ (u ∷ (word 2 ∷ (v ∷ []))) in
    let h = word 4 ∷ (word 5 ∷ (word 6 ∷ (word 7 ∷ (word 8 ∷ [])))) in
    masks ++ (h ++ (word 9 ∷ (a ∷ (word 11 ∷ (b ∷ (word 13 ∷ []))))))

-- the words with those replaced that are server 0's share
abbrev pub with_zero : List ℕ → ProofShare → List ℕ
with_zero words share =
    let word = slice_index words in
    let masks = share.u ∷ (word 1 ∷ (share.v ∷ (word 3 ∷ []))) in
    masks ++ (share.h ++ (share.a ∷ (word 10 ∷ (share.b ∷ (word 12 ∷ (share.c ∷ []))))))

-- server 0's h, where server 1 has this one and the words are those of the choice: that, and f·g
abbrev pub made_h : PlainChoice → ℕ → ℕ → ℕ → List ℕ → List ℕ
made_h choice m r s h =
    plus_of bit_xor h
    (times_of 0 bit_xor product (honest_f m r (drawn choice)) (honest_g m r s (drawn choice)))

-- server 0's c, where server 1 has this one: that, and a·b
abbrev pub made_c : List ℕ → ℕ → ℕ → ℕ → ℕ
made_c words a b c =
    bit_xor c (product (bit_xor a (slice_index words 10)) (bit_xor b (slice_index words 12)))

-- the words in which server 0 has u, v, a and b of this share, and server 1 its h and c
abbrev pub zero_words : PlainChoice → ProofShare → ℕ → ℕ → ℕ → List ℕ
zero_words choice share m r s =
    let masked = record choice { words = with_zero choice.words share } in
    let h = made_h masked m r s share.h in
    with_zero choice.words (record share { h = h; c = made_c choice.words share.a share.b share.c })

-- where the viewer is server 1, its own h and c stay by what server 0's are
unfoldable pub moved_words : ℕ → PlainChoice → PlainAim → PlainAim → PlainGame → List ℕ
moved_words viewer choice from to game =
    let u = moved_u viewer choice from to game in
    let v = moved_v viewer choice from to game in
    let a = moved_a viewer choice from to game in
    let b = moved_b viewer choice from to game in
    let m = difference_of viewer (walked viewer choice from to) to in
    let share = record (own_share viewer choice from game) { u = u; v = v; a = a; b = b } in
    if viewer == 0 then with_one choice.words u v a b
    else zero_words choice share m (challenge_r game.ckey to.target) (challenge_s game.ckey to.target)

-- the moved choice: the roots stay
unfoldable pub moved : ℕ → PlainChoice → PlainAim → PlainAim → PlainGame → PlainChoice
moved viewer choice from to game =
    record (walked viewer choice from to) { words = moved_words viewer choice from to game }

-- the moved choice of one that lies in memory
abbrev pub moved_of : ℕ → IdealChoice → Aim → Aim → Game → PlainChoice
moved_of viewer choice from to game =
    moved viewer (plain_choice choice) (plain_aim from) (plain_aim to) (plain_game game)

-- what a choice at an aim gave the viewer to see, and what both servers audit of it there, and where it is
-- moved to another
pub record IsAudited (viewer : ℕ) (choice : PlainChoice) (from to : PlainAim) (game : PlainGame)
    (seen : View) (sums : Sums) (audited : Audited) : Type 0 where
  pub viewed : seen ≡ view viewer choice from game
  pub before : sums ≡ other_sums viewer choice from game
  pub other : audited.other ≡ moved_sums viewer choice from to game
  pub difference : audited.difference ≡ difference_of viewer (walked viewer choice from to) to

-- Whatever aim gave the viewer this to see, these are the words of the choice that is moved from there.
abbrev pub AreMovedWords : ℕ → PlainChoice → PlainAim → PlainGame → View → Sums → Audited
    → List ℕ → Type 0
AreMovedWords viewer choice to game seen sums audited words =
    (from : PlainAim) → IsAudited viewer choice from to game seen sums audited →
    words ≡ moved_words viewer choice from to game
