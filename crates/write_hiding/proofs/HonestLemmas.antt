-- A client's write is an ideal choice, and its view is what the viewer gets.
use Rattle.std.proofs.Common.{◌≡◌, ℕ, ◌^◌, ◌<◌, List, [], ◌∷◌, map, length, refl, ap, ◌∙◌, bit_xor}
use Rattle.std.specs.Prelude.{All}
use Rattle.std.specs.Int.Bits.{xor_comm}
use Rattle.std.proofs.lemmas.List.Elements.{All-head, All-tail, All-contains}
use Rattle.dpf_rules.specs.Expansion.{challenge_r, challenge_s}
use Rattle.dpf_rules.specs.Walk.{leaf_of}
use Rattle.dpf_rules.specs.Keys.{path_at, honest_keys}
use Rattle.dpf_rules.specs.Evaluation.{difference_at}
use Rattle.express_words.specs.declared.audit.ProofShare.{ProofShare}
use Rattle.audit_rules.specs.declared.sums.Sums.{Sums}
use Rattle.audit_rules.specs.Audit.{zero_share, one_share, opening_of, opened_of, closing_of}
use Rattle.audit_rules.specs.Challenges.{sums_under}
use Rattle.dpf_rules.specs.Evaluation.{leaves}
use Rattle.write_hiding.specs.Choices.{PlainChoice, PlainAim, PlainGame, IsChoice, IsAim}
use Rattle.write_hiding.specs.Views.{other_leaf, other_end, own_leaf, own_sums, other_sums, difference_of, share_of, own_opening, other_opening, other_closing, view}
use Rattle.write_hiding.specs.Writes.{Drawn, IsDrawn, choice_of, write_view}
use Rattle.dpf_rules.proofs.RangeLemmas.{honest-form}
use Rattle.audit_rules.specs.Values.{values, opens, sums_at}
use Rattle.write_hiding.proofs.OtherLeaves.{end0, end1, keys0, keys1, leaf0, leaf1, own0, own1}
use Rattle.write_hiding.proofs.ViewLemmas.{same_view}

map_same : (f g : ℕ → ℕ) (n : ℕ) (xs : List ℕ) → All (λ x. x < n) xs → ((x : ℕ) → x < n → f x ≡ g x) → map f xs ≡ map g xs
map_same f g n [] h same = refl
map_same f g n (x ∷ xs) h same =
    rw (same x (All-head (λ x. x < n) x xs h), map_same f g n xs (All-tail (λ x. x < n) x xs h) same) refl

module _ (width : ℕ) (d : Drawn) (aim : PlainAim) (game : PlainGame) (is_drawn : IsDrawn d) (places : All (λ n. n < 2 ^ 128) game.addresses) (aimed : IsAim width game aim) where
  abbrev root0 : ℕ
  root0 = d.root0

  abbrev root1 : ℕ
  root1 = d.root1

  abbrev words : List ℕ
  words = d.words

  abbrev q : ℕ
  q = aim.target

  abbrev n : ℕ
  n = length aim.message

  abbrev part : List ℕ
  part = honest_keys q aim.message root0 root1

  small : q < 2 ^ 128
  small = All-contains (λ n. n < 2 ^ 128) game.addresses q places aimed.registered

  abbrev sums0 : Sums
  sums0 = sums_under game.ckey game.addresses (leaves part 0 root0 game.addresses)

  abbrev sums1 : Sums
  sums1 = sums_under game.ckey game.addresses (leaves part 1 root1 game.addresses)

  abbrev made : ℕ → ProofShare
  made m = one_share m (challenge_r game.ckey q) (challenge_s game.ckey q) (root0 ∷ (root1 ∷ words))

  abbrev m : ℕ
  m = difference_at part root0 root1 q

  -- ---- the viewer is server 0
  abbrev c0 : PlainChoice
  c0 = choice_of 0 d aim

  pub form0 : IsChoice width c0
  unfolding choice_of
  form0 = record {
    own_root = is_drawn.root0;
    other_root = is_drawn.root1;
    other = rw (← aimed.size) (honest-form n (λ i. (path_at q root0 root1 i).1));
    size = is_drawn.size;
    words = is_drawn.words;
  }

  own_sums0 : own_sums 0 c0 aim game ≡ sums0
  own_sums0 = ap (sums_under game.ckey game.addresses) (map_same (own_leaf 0 c0 aim) (leaf_of part 0 root0) (2 ^ 128) game.addresses places (λ a h. own0 d aim a))

  other_sums0 : other_sums 0 c0 aim game ≡ sums1
  other_sums0 = ap (sums_under game.ckey game.addresses) (map_same (other_leaf 0 c0 aim) (leaf_of part 1 root1) (2 ^ 128) game.addresses places (leaf0 d aim small))

  difference0 : difference_of 0 c0 aim ≡ m
  unfolding difference_at
  difference0 = ap (λ x. bit_xor x (other_end 0 c0 aim)) (own0 d aim q) ∙ ap (bit_xor (leaf_of part 0 root0 q)) (end0 d aim)

  proof0 : share_of 0 0 c0 aim game ≡ zero_share (root0 ∷ (root1 ∷ words))
  unfolding choice_of
  proof0 = refl

  share0 : share_of 1 0 c0 aim game ≡ made m
  unfolding choice_of
  share0 = ap made difference0

  opened0 : other_opening 0 c0 aim game ≡ opening_of sums1 (made m) game.sigma
  opened0 = ap (λ s. opening_of s (share_of 1 0 c0 aim game) game.sigma) other_sums0 ∙ ap (λ p. opening_of sums1 p game.sigma) share0

  own_opened0 : own_opening 0 c0 aim game ≡ opening_of sums0 (zero_share (root0 ∷ (root1 ∷ words))) game.sigma
  own_opened0 = ap (λ s. opening_of s (share_of 0 0 c0 aim game) game.sigma) own_sums0 ∙ ap (λ p. opening_of sums0 p game.sigma) proof0

  closed0 : other_closing 0 c0 aim game ≡ closing_of 1 (made m) game.sigma (opened_of (opening_of sums0 (zero_share (root0 ∷ (root1 ∷ words))) game.sigma) (opening_of sums1 (made m) game.sigma))
  closed0 =
      ap (λ p. closing_of 1 p game.sigma (opened_of (own_opening 0 c0 aim game) (other_opening 0 c0 aim game))) share0
      ∙ ap (λ o. closing_of 1 (made m) game.sigma (opened_of o (other_opening 0 c0 aim game))) own_opened0
      ∙ ap (λ o. closing_of 1 (made m) game.sigma (opened_of (opening_of sums0 (zero_share (root0 ∷ (root1 ∷ words))) game.sigma) o)) opened0

  pub view0 : view 0 c0 aim game ≡ write_view 0 d aim game
  unfolding view write_view choice_of values opens sums_at
  view0 = same_view (view 0 c0 aim game) (write_view 0 d aim game) refl (keys0 d aim) proof0 opened0 closed0

  -- ---- the viewer is server 1
  abbrev c1 : PlainChoice
  c1 = choice_of 1 d aim

  pub form1 : IsChoice width c1
  unfolding choice_of
  form1 = record {
    own_root = is_drawn.root1;
    other_root = is_drawn.root0;
    other = rw (← aimed.size) (honest-form n (λ i. (path_at q root0 root1 i).0));
    size = is_drawn.size;
    words = is_drawn.words;
  }

  own_sums1 : own_sums 1 c1 aim game ≡ sums1
  own_sums1 = ap (sums_under game.ckey game.addresses) (map_same (own_leaf 1 c1 aim) (leaf_of part 1 root1) (2 ^ 128) game.addresses places (λ a h. own1 d aim a))

  other_sums1 : other_sums 1 c1 aim game ≡ sums0
  other_sums1 = ap (sums_under game.ckey game.addresses) (map_same (other_leaf 1 c1 aim) (leaf_of part 0 root0) (2 ^ 128) game.addresses places (leaf1 d aim small))

  difference1 : difference_of 1 c1 aim ≡ m
  unfolding difference_at
  difference1 =
      ap (λ x. bit_xor x (other_end 1 c1 aim)) (own1 d aim q) ∙ ap (bit_xor (leaf_of part 1 root1 q)) (end1 d aim)
      ∙ xor_comm (leaf_of part 1 root1 q) (leaf_of part 0 root0 q)

  proof1 : share_of 1 1 c1 aim game ≡ made m
  unfolding choice_of one_share zero_share
  proof1 = ap made difference1

  share1 : share_of 0 1 c1 aim game ≡ zero_share (root0 ∷ (root1 ∷ words))
  unfolding choice_of zero_share
  share1 = refl

  opened1 : other_opening 1 c1 aim game ≡ opening_of sums0 (zero_share (root0 ∷ (root1 ∷ words))) game.sigma
  opened1 = ap (λ s. opening_of s (share_of 0 1 c1 aim game) game.sigma) other_sums1 ∙ ap (λ p. opening_of sums0 p game.sigma) share1

  own_opened1 : own_opening 1 c1 aim game ≡ opening_of sums1 (made m) game.sigma
  own_opened1 = ap (λ s. opening_of s (share_of 1 1 c1 aim game) game.sigma) own_sums1 ∙ ap (λ p. opening_of sums1 p game.sigma) proof1

  closed1 : other_closing 1 c1 aim game ≡ closing_of 0 (zero_share (root0 ∷ (root1 ∷ words))) game.sigma (opened_of (opening_of sums1 (made m) game.sigma) (opening_of sums0 (zero_share (root0 ∷ (root1 ∷ words))) game.sigma))
  closed1 =
      ap (λ p. closing_of 0 p game.sigma (opened_of (own_opening 1 c1 aim game) (other_opening 1 c1 aim game))) share1
      ∙ ap (λ o. closing_of 0 (zero_share (root0 ∷ (root1 ∷ words))) game.sigma (opened_of o (other_opening 1 c1 aim game))) own_opened1
      ∙ ap (λ o. closing_of 0 (zero_share (root0 ∷ (root1 ∷ words))) game.sigma (opened_of (opening_of sums1 (made m) game.sigma) o)) opened1

  pub view1 : view 1 c1 aim game ≡ write_view 1 d aim game
  unfolding view write_view choice_of values opens sums_at
  view1 = same_view (view 1 c1 aim game) (write_view 1 d aim game) refl (keys1 d aim) proof1 opened1 closed1
