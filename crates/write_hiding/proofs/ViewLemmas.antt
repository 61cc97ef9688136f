-- The moved choice gives the same view of the other write.
use Rattle.std.proofs.Common.{◌≡◌, ℕ, List, map, refl, ap, ◌∙◌, bit_xor, lit<}
use Rattle.dpf_rules.specs.Expansion.{challenge_r, challenge_s}
use Rattle.dpf_rules.specs.Walk.{leaf_of}
use Rattle.express_words.specs.declared.audit.ProofShare.{ProofShare}
use Rattle.express_words.specs.declared.audit.Openings.{Openings}
use Rattle.audit_rules.specs.declared.sums.Sums.{Sums}
use Rattle.audit_rules.specs.Audit.{product, value, through_three, zero_share, one_share, opening_of, honest_f, honest_g}
use Rattle.tower_laws.specs.Polynomials.{times_of}
use Rattle.audit_rules.specs.Challenges.{sums_under}
use Rattle.write_hiding.specs.declared.choice.View.{View}
use Rattle.write_hiding.specs.Choices.{PlainChoice, PlainAim, PlainGame, IsChoice, IsAim, IsGame}
use Rattle.write_hiding.specs.Views.{public_part, own_sums, other_sums, drawn, difference_of, share_of, other_opening, other_closing, view}
use Rattle.write_hiding.specs.Moved.{walked, moved_u, moved_v, moved_a, moved_b, with_zero, moved_words, moved}
use Rattle.write_hiding.proofs.PartLemmas.{public_part_stays}
use Rattle.audit_rules.proofs.AloneLaws.{plus_back, number_back}
use Rattle.write_hiding.proofs.AuditLemmas.{one_closes, zero_closes}
use Rattle.write_hiding.proofs.ChoiceLemmas.{accept_own, accept_other, zero_good, one_good}

pub same_view : (v w : View) → v.own_root ≡ w.own_root → v.public ≡ w.public → v.proof ≡ w.proof → v.opened ≡ w.opened → v.closed ≡ w.closed → v ≡ w
same_view v w r p k o c =
    ap (λ r. record v { own_root = r }) r ∙ ap (λ p. record v { own_root = w.own_root; public = p }) p
    ∙ ap (λ k. record v { own_root = w.own_root; public = w.public; proof = k }) k
    ∙ ap (λ o. record w { opened = o; closed = v.closed }) o ∙ ap (λ c. record w { closed = c }) c

pub same_opening : (o p : Openings) → o.d ≡ p.d → o.e ≡ p.e → o ≡ p
same_opening o p h k = ap (λ d. record o { d = d }) h ∙ ap (λ e. record p { e = e }) k

-- a share with the a and b by which it opens this
opens : (sums : Sums) (share : ProofShare) (sigma : ℕ) (o : Openings) →
    share.a ≡ bit_xor o.d (value (through_three share.u sums.x sums.m) sigma) →
    share.b ≡ bit_xor o.e (product sigma (value (through_three share.v sums.y sums.z) sigma)) → opening_of sums share sigma ≡ o
unfolding opening_of
opens sums share sigma o ha hb =
    same_opening _ o
    (ap (bit_xor (value (through_three share.u sums.x sums.m) sigma)) ha ∙ number_back (value (through_three share.u sums.x sums.m) sigma) o.d)
    (ap (bit_xor (product sigma (value (through_three share.v sums.y sums.z) sigma))) hb ∙ number_back (product sigma (value (through_three share.v sums.y sums.z) sigma)) o.e)

module _ (width : ℕ) (choice : PlainChoice) (from to : PlainAim) (game : PlainGame) (good : IsChoice width choice) (aimed : IsAim width game from) (aimed' : IsAim width game to) (fair : IsGame game) where
  -- ---- the viewer is server 0
  abbrev gone0 : PlainChoice
  gone0 = moved 0 choice from to game

  pub zero_part : public_part 0 gone0 to ≡ public_part 0 choice from
  unfolding moved
  zero_part = public_part_stays width 0 choice from to game good aimed.size aimed'.size

  pub zero_sums : own_sums 0 gone0 to game ≡ own_sums 0 choice from game
  unfolding moved
  zero_sums = ap (λ part. sums_under game.ckey game.addresses (map (leaf_of part 0 choice.own_root) game.addresses)) zero_part

  pub zero_proof : share_of 0 0 gone0 to game ≡ share_of 0 0 choice from game
  unfolding moved moved_words zero_share
  zero_proof = refl

  pub zero_opened : other_opening 0 gone0 to game ≡ other_opening 0 choice from game
  unfolding moved moved_words one_share
  zero_opened = opens (other_sums 0 gone0 to game) (share_of 1 0 gone0 to game) game.sigma (other_opening 0 choice from game) refl refl

  pub zero_closed : other_closing 0 gone0 to game ≡ other_closing 0 choice from game
  zero_closed =
      one_closes (own_sums 0 choice from game) (own_sums 0 gone0 to game) (other_sums 0 choice from game) (other_sums 0 gone0 to game)
      (share_of 0 0 choice from game) (share_of 0 0 gone0 to game) (share_of 1 0 choice from game) (share_of 1 0 gone0 to game) game.sigma
      zero_sums zero_proof zero_opened
      (accept_own width 0 (lit< tt) choice from game good aimed fair)
      (accept_own width 0 (lit< tt) gone0 to game (zero_good width choice from to game good aimed aimed' fair) aimed' fair)

  pub zero_root : gone0.own_root ≡ choice.own_root
  unfolding moved
  zero_root = refl

  pub zero_view : view 0 gone0 to game ≡ view 0 choice from game
  unfolding view
  zero_view = same_view (view 0 gone0 to game) (view 0 choice from game) zero_root zero_part zero_proof zero_opened zero_closed

  -- ---- the viewer is server 1
  abbrev gone1 : PlainChoice
  gone1 = moved 1 choice from to game

  pub one_part : public_part 1 gone1 to ≡ public_part 1 choice from
  unfolding moved
  one_part = public_part_stays width 1 choice from to game good aimed.size aimed'.size

  pub one_sums : own_sums 1 gone1 to game ≡ own_sums 1 choice from game
  unfolding moved
  one_sums = ap (λ part. sums_under game.ckey game.addresses (map (leaf_of part 1 choice.own_root) game.addresses)) one_part

  abbrev m : ℕ
  m = difference_of 1 (walked 1 choice from to) to

  abbrev share : ProofShare
  share = share_of 1 1 choice from game

  -- server 0's words where it has the viewer's h and c
  abbrev masked : PlainChoice
  masked = record choice {
    words = with_zero choice.words (record share {
      u = moved_u 1 choice from to game;
      v = moved_v 1 choice from to game;
      a = moved_a 1 choice from to game;
      b = moved_b 1 choice from to game;
    });
  }

  abbrev t : List ℕ
  t = times_of 0 bit_xor product (honest_f m (challenge_r game.ckey to.target) (drawn masked)) (honest_g m (challenge_r game.ckey to.target) (challenge_s game.ckey to.target) (drawn masked))

  abbrev share' : ProofShare
  share' = share_of 1 1 gone1 to game

  one_h : share'.h ≡ share.h
  unfolding moved moved_words zero_share one_share
  one_h = plus_back t share.h refl

  one_c : share'.c ≡ share.c
  unfolding moved moved_words zero_share one_share
  one_c = number_back _ share.c

  pub one_proof : share' ≡ share
  unfolding moved moved_words zero_share one_share
  one_proof = ap (λ h. record share' { h = h }) one_h ∙ ap (λ c. record share { c = c }) one_c

  pub one_opened : other_opening 1 gone1 to game ≡ other_opening 1 choice from game
  unfolding moved moved_words zero_share one_share
  one_opened = opens (other_sums 1 gone1 to game) (share_of 0 1 gone1 to game) game.sigma (other_opening 1 choice from game) refl refl

  pub one_closed : other_closing 1 gone1 to game ≡ other_closing 1 choice from game
  one_closed =
      zero_closes (own_sums 1 choice from game) (own_sums 1 gone1 to game) (other_sums 1 choice from game) (other_sums 1 gone1 to game)
      share share' (share_of 0 1 choice from game) (share_of 0 1 gone1 to game) game.sigma
      one_sums one_proof one_opened
      (accept_other width 1 (lit< tt) choice from game good aimed fair)
      (accept_other width 1 (lit< tt) gone1 to game (one_good width choice from to game good aimed aimed' fair) aimed' fair)

  pub one_root : gone1.own_root ≡ choice.own_root
  unfolding moved
  one_root = refl

  pub one_view : view 1 gone1 to game ≡ view 1 choice from game
  unfolding view
  one_view = same_view (view 1 gone1 to game) (view 1 choice from game) one_root one_part one_proof one_opened one_closed
