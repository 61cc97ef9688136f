-- What the code of a move computes is the move.
use Rattle.std.proofs.Common.{◌≡◌, ℕ, ◌+◌, List, map, length, refl, ap, ◌∙◌, add-one, bit_xor}
use Rattle.std.specs.Prelude.{slice_index}
use Rattle.std.specs.List.{range_with_len}
use Rattle.express_words.specs.Bytes.{xor_bytes}
use Rattle.express_words.proofs.Bytes.{xor_bytes_comm}
use Rattle.dpf_rules.specs.Expansion.{block, challenge_r, challenge_s}
use Rattle.dpf_rules.specs.Walk.{word_of, right_of, last_of, side_at, step, state_at}
use Rattle.dpf_rules.specs.Keys.{Expansions, pair_at, raw_pair}
use Rattle.audit_rules.specs.declared.sums.Sums.{Sums}
use Rattle.audit_rules.specs.Audit.{product, value, through_three}
use Rattle.write_hiding.specs.declared.choice.View.{View}
use Rattle.write_hiding.specs.Choices.{PlainChoice, PlainAim, PlainGame}
use Rattle.write_hiding.specs.Views.{public_part, difference_of, other_sums, view}
use Rattle.write_hiding.specs.Moved.{moved_pair, moved_at, moved_list, walked, moved_mask, moved_sums, with_one, zero_words, moved_words, moved}

-- one level
module _ (part : List ℕ) (viewer root : ℕ) (other : Expansions) (from to i state word right f t : ℕ) (raw pair : ℕ × ℕ)
    (state_is : state ≡ state_at part viewer root to i) (word_is : word ≡ word_of part i) (right_is : right ≡ right_of part i)
    (raw_is : raw ≡ raw_pair state) (pair_is : pair ≡ pair_at other i) (from_is : f ≡ side_at from i) (to_is : t ≡ side_at to i) where
  pub pair_on_walk : moved_pair word right raw pair f t ≡ moved_at part viewer root other from to i
  pair_on_walk = rw (word_is, right_is, raw_is, pair_is, state_is, from_is, to_is) refl

  pub next_on_walk : step word right t state ≡ state_at part viewer root to (i + 1)
  unfolding state_at
  next_on_walk = rw (add-one i, word_is, right_is, state_is, to_is) refl

-- the whole walk, and the last block
module _ (viewer : ℕ) (choice : PlainChoice) (from to : PlainAim) (part bytes : List ℕ) (pairs : List (ℕ × ℕ)) (end : ℕ)
    (part_is : part ≡ public_part viewer choice from)
    (pairs_are : pairs ≡ map (moved_at part viewer choice.own_root choice.other from.target to.target) (range_with_len 0 128))
    (end_is : end ≡ state_at part viewer choice.own_root to.target 128)
    (bytes_are : bytes ≡ xor_bytes (xor_bytes (block (length to.message) end) (last_of part)) to.message) where
  pub walked_is : record { own_root = choice.own_root; other_root = choice.other_root; other = record { pairs = pairs; block = bytes }; words = choice.words }
      ≡ walked viewer choice from to
  unfolding moved_list
  walked_is = rw (bytes_are, xor_bytes_comm (block (length to.message) end) (last_of part), pairs_are, end_is, part_is) refl

-- ---- the words

module _ (choice : PlainChoice) (from to : PlainAim) (game : PlainGame) (seen : View) (sums gone : Sums) (m u v a b : ℕ) where
  abbrev word : ℕ → ℕ
  word = slice_index choice.words

  pub words_of_zero : seen ≡ view 0 choice from game → sums ≡ other_sums 0 choice from game → gone ≡ moved_sums 0 choice from to game →
      u ≡ moved_mask game.sigma (word 1) sums.x sums.m gone.x gone.m →
      v ≡ moved_mask game.sigma (word 3) sums.y sums.z gone.y gone.z →
      a ≡ bit_xor seen.opened.d (value (through_three u gone.x gone.m) game.sigma) →
      b ≡ bit_xor seen.opened.e (product game.sigma (value (through_three v gone.y gone.z) game.sigma)) →
      with_one choice.words u v a b ≡ moved_words 0 choice from to game
  unfolding view moved_words
  words_of_zero seen_is sums_are gone_are u_is v_is a_is b_is = rw (a_is, b_is, u_is, v_is, seen_is, sums_are, gone_are) refl

  pub words_of_one : seen ≡ view 1 choice from game → sums ≡ other_sums 1 choice from game → gone ≡ moved_sums 1 choice from to game →
      m ≡ difference_of 1 (walked 1 choice from to) to →
      u ≡ moved_mask game.sigma (word 0) sums.x sums.m gone.x gone.m →
      v ≡ moved_mask game.sigma (word 2) sums.y sums.z gone.y gone.z →
      a ≡ bit_xor seen.opened.d (value (through_three u gone.x gone.m) game.sigma) →
      b ≡ bit_xor seen.opened.e (product game.sigma (value (through_three v gone.y gone.z) game.sigma)) →
      zero_words choice (record seen.proof { u = u; v = v; a = a; b = b }) m (challenge_r game.ckey to.target) (challenge_s game.ckey to.target)
      ≡ moved_words 1 choice from to game
  unfolding view moved_words
  words_of_one seen_is sums_are gone_are m_is u_is v_is a_is b_is = rw (a_is, b_is, u_is, v_is, seen_is, sums_are, gone_are, m_is) refl

-- ---- the whole choice

module _ (viewer viewer' : ℕ) (choice : PlainChoice) (from to : PlainAim) (game : PlainGame) (gone : PlainChoice)
    (viewer_is : viewer' ≡ viewer) (gone_is : gone ≡ walked viewer choice from to) where
  pub part_of_walked : public_part viewer' gone to ≡ public_part viewer (walked viewer choice from to) to
  part_of_walked = rw (viewer_is, gone_is) refl

  pub sums_of_walked : (sums : Sums) → sums ≡ other_sums viewer' gone to game → sums ≡ other_sums viewer (walked viewer choice from to) to game
  sums_of_walked sums h = h ∙ rw (viewer_is, gone_is) refl

  pub difference_of_walked : (m : ℕ) → m ≡ difference_of viewer' gone to → m ≡ difference_of viewer (walked viewer choice from to) to
  difference_of_walked m h = h ∙ rw (viewer_is, gone_is) refl

  pub moved_is : (words : List ℕ) → words ≡ moved_words viewer choice from to game → record gone { words = words } ≡ moved viewer choice from to game
  unfolding moved
  moved_is words h = ap (λ (ws : List ℕ). record gone { words = ws }) h ∙ ap (λ (c : PlainChoice). record c { words = moved_words viewer choice from to game }) gone_is
