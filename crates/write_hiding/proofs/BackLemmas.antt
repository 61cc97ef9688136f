-- The opposite move of a moved choice is the choice.
use Rattle.std.proofs.Common.{◌≡◌, ℕ, ◌+◌, List, [], ◌∷◌, ◌++◌, map, length, refl, ap, ◌∙◌, arith, bit_xor}
use Rattle.std.specs.Prelude.{slice_index}
use Rattle.dpf_rules.specs.Expansion.{challenge_r, challenge_s}
use Rattle.express_words.specs.declared.audit.ProofShare.{ProofShare}
use Rattle.express_words.specs.declared.audit.Openings.{Openings}
use Rattle.audit_rules.specs.declared.sums.Sums.{Sums}
use Rattle.audit_rules.specs.Audit.{product, value, through_three, zero_share, one_share, opening_of, honest_f, honest_g}
use Rattle.tower_laws.specs.Polynomials.{plus_of, times_of}
use Rattle.write_hiding.specs.Choices.{PlainChoice, PlainAim, PlainGame, IsChoice, IsAim, IsGame}
use Rattle.write_hiding.specs.Views.{public_part, other_sums, drawn, difference_of, share_of, other_opening}
use Rattle.write_hiding.specs.Moved.{moved_list, walked, moved_mask, moved_sums, moved_u, moved_v, moved_a, moved_b, with_one, made_c, zero_words, moved_words, moved}
use Rattle.write_hiding.proofs.PartLemmas.{public_part_stays}
use Rattle.write_hiding.proofs.ReturnLemmas.{map_is, returns}
use Rattle.write_hiding.proofs.AuditLemmas.{number_forth, plus_forth}
use Rattle.write_hiding.proofs.MaskLemmas.{mask_back}
use Rattle.write_hiding.proofs.ViewLemmas.{zero_opened, one_opened, one_proof}

same_choice : (c d : PlainChoice) → c.own_root ≡ d.own_root → c.other_root ≡ d.other_root → c.other ≡ d.other → c.words ≡ d.words → c ≡ d
same_choice c d o r e w =
    ap (λ o. record c { own_root = o }) o ∙ ap (λ r. record c { own_root = d.own_root; other_root = r }) r
    ∙ ap (λ e. record d { other = e; words = c.words }) e ∙ ap (λ w. record d { words = w }) w

-- a list of fourteen words by its places
pub fourteen : (w : List ℕ) → length w ≡ 14 → map (slice_index w) (0 ∷ (1 ∷ (2 ∷ (3 ∷ (4 ∷ (5 ∷ (6 ∷ (7 ∷ (8 ∷ (9 ∷ (10 ∷ (11 ∷ (12 ∷ (13 ∷ [])))))))))))))) ≡ w
fourteen w h = map_is (slice_index w) w 0 14 0 h (λ i l. let place : 0 + i ≡ i = omega arith in rw place refl)

-- what is opened again gives a and b
a_again : (sums sums' : Sums) (share : ProofShare) (sigma : ℕ) (o : Openings) → o ≡ opening_of sums share sigma → sums' ≡ sums →
    bit_xor o.d (value (through_three share.u sums'.x sums'.m) sigma) ≡ share.a
unfolding opening_of
a_again sums sums' share sigma o ho hs =
    ap (λ s. bit_xor o.d (value (through_three share.u s.x s.m) sigma)) hs
    ∙ ap (λ o. bit_xor o.d (value (through_three share.u sums.x sums.m) sigma)) ho
    ∙ number_forth (value (through_three share.u sums.x sums.m) sigma) share.a

b_again : (sums sums' : Sums) (share : ProofShare) (sigma : ℕ) (o : Openings) → o ≡ opening_of sums share sigma → sums' ≡ sums →
    bit_xor o.e (product sigma (value (through_three share.v sums'.y sums'.z) sigma)) ≡ share.b
unfolding opening_of
b_again sums sums' share sigma o ho hs =
    ap (λ s. bit_xor o.e (product sigma (value (through_three share.v s.y s.z) sigma))) hs
    ∙ ap (λ o. bit_xor o.e (product sigma (value (through_three share.v sums.y sums.z) sigma))) ho
    ∙ number_forth (product sigma (value (through_three share.v sums.y sums.z) sigma)) share.b

module _ (width viewer : ℕ) (choice : PlainChoice) (from to : PlainAim) (game : PlainGame) (good : IsChoice width choice) (aimed : IsAim width game from) (aimed' : IsAim width game to) where
  abbrev gone : PlainChoice
  gone = moved viewer choice from to game

  part_stays : public_part viewer gone to ≡ public_part viewer choice from
  unfolding moved
  part_stays = public_part_stays width viewer choice from to game good aimed.size aimed'.size

  list_back : (walked viewer gone to from).other ≡ choice.other
  unfolding moved
  list_back =
      ap (λ part. moved_list part viewer choice.own_root (walked viewer choice from to).other to.target from.target from.message) part_stays
      ∙ returns width viewer choice.own_root choice.other good.other.levels good.other.states good.other.size from.target from.message aimed.size to.target to.message

  sums_back : other_sums viewer (walked viewer gone to from) from game ≡ other_sums viewer choice from game
  unfolding moved
  sums_back = ap (λ e. other_sums viewer (record gone { other = e }) from game) list_back

  difference_back : difference_of viewer (walked viewer gone to from) from ≡ difference_of viewer choice from
  unfolding moved
  difference_back = ap (λ e. difference_of viewer (record gone { other = e }) from) list_back

  choice_back : moved_words viewer gone to from game ≡ choice.words → moved viewer gone to from game ≡ choice
  unfolding moved
  choice_back words = same_choice (moved viewer gone to from game) choice refl refl list_back words

module _ (width : ℕ) (choice : PlainChoice) (from to : PlainAim) (game : PlainGame) (good : IsChoice width choice) (aimed : IsAim width game from) (aimed' : IsAim width game to) (fair : IsGame game) where
  abbrev word : ℕ → ℕ
  word = slice_index choice.words

  -- ---- the viewer is server 0
  abbrev gone0 : PlainChoice
  gone0 = moved 0 choice from to game

  abbrev back0 : Sums
  back0 = moved_sums 0 gone0 to from game

  zero_sums : back0 ≡ other_sums 0 choice from game
  zero_sums = sums_back width 0 choice from to game good aimed aimed'

  abbrev mask0 : ℕ → ℕ → ℕ → ℕ → ℕ → ℕ
  mask0 mask at1 at2 to1 to2 = moved_mask game.sigma mask at1 at2 to1 to2

  abbrev there0 : Sums
  there0 = other_sums 0 gone0 to game

  zero_u : moved_u 0 gone0 to from game ≡ word 1
  unfolding moved moved_words
  zero_u =
      let there = there0 in
      ap (λ (k : Sums). mask0 (moved_u 0 choice from to game) there.x there.m k.x k.m) zero_sums
      ∙ mask_back game.sigma (word 1) (other_sums 0 choice from game).x (other_sums 0 choice from game).m there.x there.m

  zero_v : moved_v 0 gone0 to from game ≡ word 3
  unfolding moved moved_words
  zero_v =
      let there = there0 in
      ap (λ (k : Sums). mask0 (moved_v 0 choice from to game) there.y there.z k.y k.z) zero_sums
      ∙ mask_back game.sigma (word 3) (other_sums 0 choice from game).y (other_sums 0 choice from game).z there.y there.z

  zero_a : moved_a 0 gone0 to from game ≡ word 10
  unfolding one_share
  zero_a =
      ap (λ u. bit_xor (other_opening 0 gone0 to game).d (value (through_three u back0.x back0.m) game.sigma)) zero_u
      ∙ a_again (other_sums 0 choice from game) back0 (share_of 1 0 choice from game) game.sigma (other_opening 0 gone0 to game)
      (zero_opened width choice from to game good aimed aimed' fair) zero_sums

  zero_b : moved_b 0 gone0 to from game ≡ word 12
  unfolding one_share
  zero_b =
      ap (λ v. bit_xor (other_opening 0 gone0 to game).e (product game.sigma (value (through_three v back0.y back0.z) game.sigma))) zero_v
      ∙ b_again (other_sums 0 choice from game) back0 (share_of 1 0 choice from game) game.sigma (other_opening 0 gone0 to game)
      (zero_opened width choice from to game good aimed aimed' fair) zero_sums

  zero_made : moved_words 0 gone0 to from game
      ≡ with_one choice.words (moved_u 0 gone0 to from game) (moved_v 0 gone0 to from game) (moved_a 0 gone0 to from game) (moved_b 0 gone0 to from game)
  unfolding moved moved_words
  zero_made = refl

  zero_words_back : moved_words 0 gone0 to from game ≡ choice.words
  zero_words_back =
      zero_made
      ∙ ap (λ u. with_one choice.words u (moved_v 0 gone0 to from game) (moved_a 0 gone0 to from game) (moved_b 0 gone0 to from game)) zero_u
      ∙ ap (λ v. with_one choice.words (word 1) v (moved_a 0 gone0 to from game) (moved_b 0 gone0 to from game)) zero_v
      ∙ ap (λ a. with_one choice.words (word 1) (word 3) a (moved_b 0 gone0 to from game)) zero_a
      ∙ ap (with_one choice.words (word 1) (word 3) (word 10)) zero_b ∙ fourteen choice.words good.size

  pub zero_back : moved 0 gone0 to from game ≡ choice
  zero_back = choice_back width 0 choice from to game good aimed aimed' zero_words_back

  -- ---- the viewer is server 1
  abbrev gone1 : PlainChoice
  gone1 = moved 1 choice from to game

  abbrev back1 : Sums
  back1 = moved_sums 1 gone1 to from game

  one_sums : back1 ≡ other_sums 1 choice from game
  one_sums = sums_back width 1 choice from to game good aimed aimed'

  abbrev there1 : Sums
  there1 = other_sums 1 gone1 to game

  one_u : moved_u 1 gone1 to from game ≡ word 0
  unfolding moved moved_words
  one_u =
      let there = there1 in
      ap (λ (k : Sums). mask0 (moved_u 1 choice from to game) there.x there.m k.x k.m) one_sums
      ∙ mask_back game.sigma (word 0) (other_sums 1 choice from game).x (other_sums 1 choice from game).m there.x there.m

  one_v : moved_v 1 gone1 to from game ≡ word 2
  unfolding moved moved_words
  one_v =
      let there = there1 in
      ap (λ (k : Sums). mask0 (moved_v 1 choice from to game) there.y there.z k.y k.z) one_sums
      ∙ mask_back game.sigma (word 2) (other_sums 1 choice from game).y (other_sums 1 choice from game).z there.y there.z

  one_a : moved_a 1 gone1 to from game ≡ word 9
  unfolding zero_share
  one_a =
      ap (λ u. bit_xor (other_opening 1 gone1 to game).d (value (through_three u back1.x back1.m) game.sigma)) one_u
      ∙ a_again (other_sums 1 choice from game) back1 (share_of 0 1 choice from game) game.sigma (other_opening 1 gone1 to game)
      (one_opened width choice from to game good aimed aimed' fair) one_sums

  one_b : moved_b 1 gone1 to from game ≡ word 11
  unfolding zero_share
  one_b =
      ap (λ v. bit_xor (other_opening 1 gone1 to game).e (product game.sigma (value (through_three v back1.y back1.z) game.sigma))) one_v
      ∙ b_again (other_sums 1 choice from game) back1 (share_of 0 1 choice from game) game.sigma (other_opening 1 gone1 to game)
      (one_opened width choice from to game good aimed aimed' fair) one_sums

  abbrev r : ℕ
  r = challenge_r game.ckey from.target

  abbrev s : ℕ
  s = challenge_s game.ckey from.target

  -- f·g, where server 0 has this u and v and both leaves differ by m
  abbrev by : ℕ → List ℕ
  by m = times_of 0 bit_xor product (honest_f m r (drawn choice)) (honest_g m r s (drawn choice))

  abbrev own : ProofShare
  own = share_of 1 1 choice from game

  -- server 0's share by this one of the viewer, and by server 0's u, v, a and b
  abbrev with_own : ProofShare → ℕ → ℕ → ℕ → ℕ → ProofShare
  with_own share u v a b = record share { u = u; v = v; a = a; b = b }

  -- the words of the choice with server 0's share replaced by this one
  abbrev made : ProofShare → ℕ → ℕ → ℕ → ℕ → ℕ → List ℕ
  made share m u v a b = zero_words choice (with_own share u v a b) m r s

  one_made : moved_words 1 gone1 to from game
      ≡ made (share_of 1 1 gone1 to game) (difference_of 1 (walked 1 gone1 to from) from) (moved_u 1 gone1 to from game) (moved_v 1 gone1 to from game) (moved_a 1 gone1 to from game) (moved_b 1 gone1 to from game)
  unfolding moved moved_words zero_share one_share
  one_made = refl

  own_h : own.h ≡ plus_of bit_xor (by (difference_of 1 choice from)) (zero_share (drawn choice)).h
  unfolding one_share
  own_h = refl

  forth_h : plus_of bit_xor (plus_of bit_xor (by (difference_of 1 choice from)) (zero_share (drawn choice)).h) (by (difference_of 1 choice from)) ≡ (zero_share (drawn choice)).h
  unfolding zero_share
  forth_h = plus_forth (by (difference_of 1 choice from)) (zero_share (drawn choice)).h refl

  one_h : plus_of bit_xor own.h (by (difference_of 1 choice from)) ≡ (zero_share (drawn choice)).h
  one_h = ap (λ h. plus_of bit_xor h (by (difference_of 1 choice from))) own_h ∙ forth_h

  pub one_c : made_c choice.words (word 9) (word 11) own.c ≡ word 13
  unfolding one_share
  one_c = number_forth (product (bit_xor (word 9) (word 10)) (bit_xor (word 11) (word 12))) (word 13)

  abbrev one_list : List ℕ → ℕ → List ℕ
  one_list h c = word 0 ∷ (word 1 ∷ (word 2 ∷ (word 3 ∷ (h ++ (word 9 ∷ (word 10 ∷ (word 11 ∷ (word 12 ∷ (c ∷ [])))))))))

  own_made : made own (difference_of 1 choice from) (word 0) (word 2) (word 9) (word 11)
      ≡ one_list (plus_of bit_xor own.h (by (difference_of 1 choice from))) (made_c choice.words (word 9) (word 11) own.c)
  own_made = refl

  list_made : one_list (zero_share (drawn choice)).h (word 13) ≡ choice.words
  unfolding zero_share
  list_made = fourteen choice.words good.size

  one_words_back : moved_words 1 gone1 to from game ≡ choice.words
  one_words_back =
      one_made
      ∙ ap (λ p. made p (difference_of 1 (walked 1 gone1 to from) from) (moved_u 1 gone1 to from game) (moved_v 1 gone1 to from game) (moved_a 1 gone1 to from game) (moved_b 1 gone1 to from game))
      (one_proof width choice from to game good aimed aimed' fair)
      ∙ ap (λ m. made own m (moved_u 1 gone1 to from game) (moved_v 1 gone1 to from game) (moved_a 1 gone1 to from game) (moved_b 1 gone1 to from game))
      (difference_back width 1 choice from to game good aimed aimed')
      ∙ ap (λ u. made own (difference_of 1 choice from) u (moved_v 1 gone1 to from game) (moved_a 1 gone1 to from game) (moved_b 1 gone1 to from game)) one_u
      ∙ ap (λ v. made own (difference_of 1 choice from) (word 0) v (moved_a 1 gone1 to from game) (moved_b 1 gone1 to from game)) one_v
      ∙ ap (λ a. made own (difference_of 1 choice from) (word 0) (word 2) a (moved_b 1 gone1 to from game)) one_a
      ∙ ap (made own (difference_of 1 choice from) (word 0) (word 2) (word 9)) one_b
      ∙ own_made
      ∙ ap (λ h. one_list h (made_c choice.words (word 9) (word 11) own.c)) one_h
      ∙ ap (one_list (zero_share (drawn choice)).h) one_c ∙ list_made

  pub one_back : moved 1 gone1 to from game ≡ choice
  one_back = choice_back width 1 choice from to game good aimed aimed' one_words_back
