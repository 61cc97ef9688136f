-- What ideal choices give is in range, and both servers accept it; the moved choice is one of them.
use Rattle.std.proofs.Common.{◌≡◌, ℕ, ◌+◌, ◌-◌, ◌*◌, ◌/◌, ◌%◌, ◌^◌, ◌<◌, List, [], ◌∷◌, ◌++◌, map, length, refl, arith, bit_xor, eqb, lit<}
use Rattle.std.specs.Prelude.{All, slice_index}
use Rattle.std.proofs.lemmas.Bool.{cond_both}
use Rattle.std.proofs.lemmas.Nat.{xor_lt}
use Rattle.std.proofs.lemmas.List.Elements.{All-cons, All-head, All-append}
use Rattle.dpf_rules.specs.Expansion.{challenge_r, challenge_s}
use Rattle.express_words.specs.declared.audit.ProofShare.{ProofShare}
use Rattle.audit_rules.specs.Audit.{product, zero_share, one_share, honest_f, honest_g, ServersAccept}
use Rattle.express_words.specs.Ranges.{IsProofShare}
use Rattle.audit_rules.specs.Ranges.{IsSums}
use Rattle.audit_rules.proofs.Words.{word_in_range}
use Rattle.audit_rules.proofs.InRange.{sums-in_range, zero-in_range, one-in_range}
use Rattle.audit_rules.proofs.Transfer.{E, element}
use Rattle.tower_laws.specs.Gf.{values}
use Rattle.tower_laws.specs.Polynomials.{times_of}
use Rattle.dpf_rules.proofs.RangeLemmas.{stream_word_lt}
use Rattle.audit_rules.specs.Challenges.{challenge_rs, challenge_ss}
use Rattle.audit_rules.proofs.ChallengeLemmas.{all_map, rs-in_range, ss-in_range}
use Rattle.audit_rules.proofs.LeafLemmas.{leaves-in_range}
use Rattle.write_hiding.specs.Choices.{PlainChoice, PlainAim, PlainGame, IsChoice, IsAim, IsGame}
use Rattle.write_hiding.specs.Views.{public_part, own_leaf, other_end, other_leaf, own_sums, other_sums, drawn, difference_of, share_of, own_share, other_opening}
use Rattle.write_hiding.specs.Moved.{walked, moved_sums, moved_u, moved_v, moved_a, moved_b, with_zero, made_h, made_c, moved_words, moved}
use Rattle.write_hiding.proofs.PartLemmas.{size-last}
use Rattle.dpf_rules.specs.Bytes.{AreBytes}
use Rattle.dpf_rules.proofs.KeysLemmas.{cond_lt}
use Rattle.dpf_rules.proofs.RangeLemmas.{part-bytes, given_lt}
use Rattle.write_hiding.proofs.FormLemmas.{moved-form}
use Rattle.write_hiding.proofs.AuditLemmas.{own_first, other_first}
use Rattle.write_hiding.proofs.MaskLemmas.{mask_lt}
use Rattle.express_words.specs.Ranges.{IsOpenings}
use Rattle.audit_rules.proofs.InRange.{values-in_range, plus-in_range, honest_h-in_range}
use Rattle.audit_rules.proofs.ValueLemmas.{product_lt, value_lt, opening-in_range}

module _ (width viewer : ℕ) (hv : viewer < 2) (choice : PlainChoice) (aim : PlainAim) (game : PlainGame) (good : IsChoice width choice) (aimed : IsAim width game aim) (fair : IsGame game) where
  pub bytes : AreBytes (public_part viewer choice aim)
  bytes = part-bytes aim.target aim.message viewer choice.own_root choice.other good.other.bytes aimed.bytes

  leaf_lt : (q : ℕ) → own_leaf viewer choice aim q < 2 ^ 128
  leaf_lt q =
      All-head (λ n. n < 2 ^ 128) (own_leaf viewer choice aim q) []
      (leaves-in_range (public_part viewer choice aim) viewer choice.own_root (q ∷ []) bytes hv good.own_root)

  end_lt : other_end viewer choice aim < 2 ^ 128
  end_lt = given_lt (public_part viewer choice aim) aim.target (1 - viewer) choice.other_root choice.other 128 bytes good.other.states (omega arith) good.other_root

  pub drawn_lt : All (λ n. n < 2 ^ 128) (drawn choice)
  drawn_lt =
      All-cons (λ n. n < 2 ^ 128) choice.own_root (choice.other_root ∷ choice.words) good.own_root
      (All-cons (λ n. n < 2 ^ 128) choice.other_root choice.words good.other_root good.words)

  pub differ_lt : difference_of viewer choice aim < 2 ^ 128
  differ_lt = xor_lt 128 (own_leaf viewer choice aim aim.target) (other_end viewer choice aim) (leaf_lt aim.target) end_lt

  pub r_lt : challenge_r game.ckey aim.target < 2 ^ 128
  r_lt = stream_word_lt game.ckey (aim.target % 2 ^ 64) (64 * (aim.target / 2 ^ 64))

  pub s_lt : challenge_s game.ckey aim.target < 2 ^ 128
  s_lt = stream_word_lt game.ckey (aim.target % 2 ^ 64) (64 * (aim.target / 2 ^ 64) + 16)

  pub sums_in : IsSums (other_sums viewer choice aim game)
  sums_in =
      let other = all_map (other_leaf viewer choice aim) (2 ^ 128) (λ q. cond_lt (eqb q aim.target) (other_end viewer choice aim) (own_leaf viewer choice aim q) (2 ^ 128) end_lt (leaf_lt q)) game.addresses in
      sums-in_range (map (other_leaf viewer choice aim) game.addresses) (challenge_rs game.ckey game.addresses) (challenge_ss game.ckey game.addresses)
      other (rs-in_range game.ckey game.addresses) (ss-in_range game.ckey game.addresses)

  pub share_in : (server : ℕ) → IsProofShare (share_of server viewer choice aim game)
  share_in server =
      cond_both (eqb server 0) (zero_share (drawn choice)) (one_share (difference_of viewer choice aim) (challenge_r game.ckey aim.target) (challenge_s game.ckey aim.target) (drawn choice))
      IsProofShare (λ e. zero-in_range (drawn choice) drawn_lt)
      (λ e. one-in_range (difference_of viewer choice aim) (challenge_r game.ckey aim.target) (challenge_s game.ckey aim.target) (drawn choice) differ_lt r_lt s_lt drawn_lt)

  pub opened_in : IsOpenings (other_opening viewer choice aim game)
  opened_in = opening-in_range (other_sums viewer choice aim game) (share_of (1 - viewer) viewer choice aim game) game.sigma sums_in (share_in (1 - viewer)) fair.sigma

  -- both servers accept, where the viewer is server 0, and where it is server 1
  pub accept_own : ServersAccept (own_sums viewer choice aim game) (other_sums viewer choice aim game) (zero_share (drawn choice))
      (one_share (difference_of viewer choice aim) (challenge_r game.ckey aim.target) (challenge_s game.ckey aim.target) (drawn choice)) game.sigma
  accept_own = own_first game.ckey game.addresses (drawn choice) game.sigma aim.target (other_end viewer choice aim) (own_leaf viewer choice aim) leaf_lt end_lt drawn_lt fair.sigma aimed.registered fair.distinct

  pub accept_other : ServersAccept (other_sums viewer choice aim game) (own_sums viewer choice aim game) (zero_share (drawn choice))
      (one_share (difference_of viewer choice aim) (challenge_r game.ckey aim.target) (challenge_s game.ckey aim.target) (drawn choice)) game.sigma
  accept_other = other_first game.ckey game.addresses (drawn choice) game.sigma aim.target (other_end viewer choice aim) (own_leaf viewer choice aim) leaf_lt end_lt drawn_lt fair.sigma aimed.registered fair.distinct

-- ---- the moved choice

module _ (width viewer : ℕ) (hv : viewer < 2) (choice : PlainChoice) (from to : PlainAim) (game : PlainGame) (good : IsChoice width choice) (aimed : IsAim width game from) (aimed' : IsAim width game to) (fair : IsGame game) where
  pub walked_good : IsChoice width (walked viewer choice from to)
  walked_good = record {
    own_root = good.own_root;
    other_root = good.other_root;
    other =
        moved-form (public_part viewer choice from) viewer choice.own_root choice.other from.target to.target to.message width
        (bytes width viewer hv choice from game good aimed fair) good.other.states
        (size-last width viewer choice.own_root choice.other good.other.states good.other.size from.target from.message aimed.size to.target to.message aimed'.size)
        aimed'.size aimed'.bytes;
    size = good.size;
    words = good.words;
  }

  pub sums_in_moved : IsSums (moved_sums viewer choice from to game)
  sums_in_moved = sums_in width viewer hv (walked viewer choice from to) to game walked_good aimed' fair

  abbrev sums_before : IsSums (other_sums viewer choice from game)
  sums_before = sums_in width viewer hv choice from game good aimed fair

  pub u_lt : moved_u viewer choice from to game < 2 ^ 128
  u_lt = mask_lt game.sigma fair.sigma _ _ _ _ _ (word_in_range choice.words good.words (1 - viewer)) sums_before.x sums_before.m sums_in_moved.x sums_in_moved.m

  pub v_lt : moved_v viewer choice from to game < 2 ^ 128
  v_lt = mask_lt game.sigma fair.sigma _ _ _ _ _ (word_in_range choice.words good.words (2 + (1 - viewer))) sums_before.y sums_before.z sums_in_moved.y sums_in_moved.z

  pub a_lt : moved_a viewer choice from to game < 2 ^ 128
  a_lt = xor_lt 128 _ _ (opened_in width viewer hv choice from game good aimed fair).d
      (value_lt _ _ _ _ u_lt sums_in_moved.x sums_in_moved.m fair.sigma)

  pub b_lt : moved_b viewer choice from to game < 2 ^ 128
  b_lt = xor_lt 128 _ _ (opened_in width viewer hv choice from game good aimed fair).e
      (product_lt _ _ fair.sigma (value_lt _ _ _ _ v_lt sums_in_moved.y sums_in_moved.z fair.sigma))

-- words in which server 0's share is replaced
with_zero_lt : (words : List ℕ) (share : ProofShare) → All (λ n. n < 2 ^ 128) words → IsProofShare share → All (λ n. n < 2 ^ 128) (with_zero words share)
with_zero_lt words share hw hs =
    let word : ℕ → E = λ k. element (slice_index words k) (word_in_range words hw k) in
    let masks : List E = element share.u hs.u ∷ (word 1 ∷ (element share.v hs.v ∷ (word 3 ∷ []))) in
    let triple : List E = element share.a hs.a ∷ (word 10 ∷ (element share.b hs.b ∷ (word 12 ∷ (element share.c hs.c ∷ [])))) in
    All-append (λ n. n < 2 ^ 128) (values masks) (share.h ++ values triple) (values-in_range masks)
    (All-append (λ n. n < 2 ^ 128) share.h (values triple) hs.h (values-in_range triple))

module _ (width : ℕ) (choice : PlainChoice) (from to : PlainAim) (game : PlainGame) (good : IsChoice width choice) (aimed : IsAim width game from) (aimed' : IsAim width game to) (fair : IsGame game) where
  abbrev word : ℕ → E
  word k = element (slice_index choice.words k) (word_in_range choice.words good.words k)

  -- the viewer is server 0
  zero_words : All (λ n. n < 2 ^ 128) (moved_words 0 choice from to game)
  unfolding moved_words
  zero_words =
      let u : E = element (moved_u 0 choice from to game) (u_lt width 0 (lit< tt) choice from to game good aimed aimed' fair) in
      let v : E = element (moved_v 0 choice from to game) (v_lt width 0 (lit< tt) choice from to game good aimed aimed' fair) in
      let a : E = element (moved_a 0 choice from to game) (a_lt width 0 (lit< tt) choice from to game good aimed aimed' fair) in
      let b : E = element (moved_b 0 choice from to game) (b_lt width 0 (lit< tt) choice from to game good aimed aimed' fair) in
      values-in_range (word 0 ∷ (u ∷ (word 2 ∷ (v ∷ (word 4 ∷ (word 5 ∷ (word 6 ∷ (word 7 ∷ (word 8 ∷ (word 9 ∷ (a ∷ (word 11 ∷ (b ∷ (word 13 ∷ []))))))))))))))

  pub zero_good : IsChoice width (moved 0 choice from to game)
  unfolding moved moved_words
  zero_good =
      let walk_good = walked_good width 0 (lit< tt) choice from to game good aimed aimed' fair in
      record { own_root = good.own_root; other_root = good.other_root; other = walk_good.other; size = refl; words = zero_words }

  -- the viewer is server 1
  abbrev own : ProofShare
  own = own_share 1 choice from game

  own_is : IsProofShare own
  own_is = share_in width 1 (lit< tt) choice from game good aimed fair 1

  abbrev walk : PlainChoice
  walk = walked 1 choice from to

  walk_good : IsChoice width walk
  walk_good = walked_good width 1 (lit< tt) choice from to game good aimed aimed' fair

  abbrev m : ℕ
  m = difference_of 1 walk to

  abbrev r : ℕ
  r = challenge_r game.ckey to.target

  abbrev s : ℕ
  s = challenge_s game.ckey to.target

  -- the viewer's h and c with server 0's u, v, a and b
  abbrev share : ProofShare
  share = record own {
    u = moved_u 1 choice from to game;
    v = moved_v 1 choice from to game;
    a = moved_a 1 choice from to game;
    b = moved_b 1 choice from to game;
  }

  share_is : IsProofShare share
  share_is = record {
    u = u_lt width 1 (lit< tt) choice from to game good aimed aimed' fair;
    v = v_lt width 1 (lit< tt) choice from to game good aimed aimed' fair;
    h = own_is.h;
    size = own_is.size;
    a = a_lt width 1 (lit< tt) choice from to game good aimed aimed' fair;
    b = b_lt width 1 (lit< tt) choice from to game good aimed aimed' fair;
    c = own_is.c;
  }

  abbrev masked : PlainChoice
  masked = record choice { words = with_zero choice.words share }

  masked_lt : All (λ n. n < 2 ^ 128) (drawn masked)
  masked_lt =
      All-cons (λ n. n < 2 ^ 128) choice.own_root (choice.other_root ∷ masked.words) good.own_root
      (All-cons (λ n. n < 2 ^ 128) choice.other_root masked.words good.other_root (with_zero_lt choice.words share good.words share_is))

  abbrev t : List ℕ
  t = times_of 0 bit_xor product (honest_f m r (drawn masked)) (honest_g m r s (drawn masked))

  h_is : All (λ n. n < 2 ^ 128) (made_h masked m r s share.h)
  h_is = plus-in_range own.h t own_is.h
      (honest_h-in_range m r s (drawn masked)
      (differ_lt width 1 (lit< tt) walk to game walk_good aimed' fair) (r_lt width 1 (lit< tt) walk to game walk_good aimed' fair) (s_lt width 1 (lit< tt) walk to game walk_good aimed' fair)
      masked_lt)

  h_size : length (made_h masked m r s share.h) ≡ 5
  unfolding one_share zero_share
  h_size = refl

  abbrev made : ProofShare
  made = record share { h = made_h masked m r s share.h; c = made_c choice.words share.a share.b share.c }

  made_is : IsProofShare made
  made_is = record {
    u = share_is.u;
    v = share_is.v;
    h = h_is;
    size = h_size;
    a = share_is.a;
    b = share_is.b;
    c = xor_lt 128 own.c _ own_is.c (product_lt _ _ (xor_lt 128 _ _ share_is.a (word 10).in_range) (xor_lt 128 _ _ share_is.b (word 12).in_range));
  }

  one_words : All (λ n. n < 2 ^ 128) (moved_words 1 choice from to game)
  unfolding moved_words
  one_words = with_zero_lt choice.words made good.words made_is

  one_size : length (moved_words 1 choice from to game) ≡ 14
  unfolding moved_words one_share zero_share
  one_size = refl

  pub one_good : IsChoice width (moved 1 choice from to game)
  unfolding moved moved_words
  one_good =
      record {
        own_root = good.own_root;
        other_root = good.other_root;
        other = walk_good.other;
        size = one_size;
        words = one_words;
      }
