-- The moved choice gives the same view of the other write, whatever the viewer opens.
use Rattle.std.proofs.Common.{◌≡◌, ℕ, sym, ap, ◌∙◌, bit_xor, lit<, if◌then◌else◌, ◌==◌}
use Rattle.std.specs.Prelude.{slice_index}
use Rattle.std.specs.Int.Bits.{xor_comm}
use Rattle.dpf_rules.proofs.PointLemmas.{xor_again}
use Rattle.express_words.specs.declared.audit.ProofShare.{ProofShare}
use Rattle.express_words.specs.declared.audit.Openings.{Openings}
use Rattle.audit_rules.specs.Audit.{product, value, f_of, g_of, zero_share, one_share, opening_of, opened_of, closing_of}
use Rattle.audit_rules.proofs.Words.{word_in_range}
use Rattle.write_hiding.specs.Choices.{PlainChoice, PlainAim, PlainGame, IsChoice, IsAim, IsGame}
use Rattle.write_hiding.specs.Views.{own_sums, other_sums, share_of, own_opening, other_opening}
use Rattle.write_hiding.specs.Moved.{made_c, moved_words, moved}
use Rattle.write_hiding.specs.Malicious.{malicious_closing, malicious_view, MasksCount}
use Rattle.write_hiding.proofs.AuditLemmas.{number_forth, same_closing}
use Rattle.write_hiding.proofs.MaskLemmas.{mask_keeps}
use Rattle.write_hiding.proofs.ChoiceLemmas.{sums_in, sums_in_moved}
use Rattle.write_hiding.proofs.ViewLemmas.{same_view, zero_part, zero_sums, zero_proof, zero_opened, zero_closed, zero_root, one_part, one_sums, one_proof, one_opened, one_closed, one_root}
use Rattle.write_hiding.proofs.BackLemmas.{one_c}

-- ---- what is closed the same for one opening, by shares with one a, b and c, is closed the same for any

left_goes : (k a b : ℕ) → bit_xor k a ≡ bit_xor k b → a ≡ b
left_goes k a b h = sym (xor_again k a) ∙ ap (bit_xor k) h ∙ xor_again k b

right_goes : (k a b : ℕ) → bit_xor a k ≡ bit_xor b k → a ≡ b
right_goes k a b h = left_goes k a b (xor_comm k a ∙ h ∙ xor_comm b k)

-- server's tau, where its share has this c, and sigma times its h has this value
abbrev tau_of : ℕ → ProofShare → Openings → ℕ → ℕ → ℕ
tau_of server share o c n =
    bit_xor (bit_xor (bit_xor (bit_xor (product o.d share.b) (product o.e share.a)) c) n) (if server == 0 then product o.d o.e else 0)

any_closes : (server : ℕ) (q q' : ProofShare) (sigma : ℕ) (o o' sent : Openings) → o' ≡ o → q'.a ≡ q.a → q'.b ≡ q.b → q'.c ≡ q.c →
    closing_of server q' sigma o' ≡ closing_of server q sigma o → closing_of server q' sigma sent ≡ closing_of server q sigma sent
unfolding closing_of
any_closes server q q' sigma o o' sent ho ha hb hc h =
    let n = product sigma (value q.h sigma) in
    let n' = product sigma (value q'.h sigma) in
    let as_q : (p : Openings) → (closing_of server q' sigma p).tau ≡ tau_of server q p q.c n' =
    λ p. ap (λ b. bit_xor (bit_xor (bit_xor (bit_xor (product p.d b) (product p.e q'.a)) q'.c) n') (if server == 0 then product p.d p.e else 0)) hb
    ∙ ap (λ a. bit_xor (bit_xor (bit_xor (bit_xor (product p.d q.b) (product p.e a)) q'.c) n') (if server == 0 then product p.d p.e else 0)) ha
    ∙ ap (λ c. tau_of server q p c n') hc in
    let both : tau_of server q o q.c n' ≡ tau_of server q o q.c n = sym (as_q o) ∙ ap (λ p. (closing_of server q' sigma p).tau) (sym ho) ∙ ap (λ c. c.tau) h in
    let same : n' ≡ n = left_goes _ n' n (right_goes _ _ _ both) in
    same_closing (closing_of server q' sigma sent) (closing_of server q sigma sent) (ap (λ c. c.o) h) (as_q sent ∙ ap (tau_of server q sent q.c) same)

module _ (width : ℕ) (choice : PlainChoice) (from to : PlainAim) (game : PlainGame) (fair : IsGame game) (good : IsChoice width choice) (aimed : IsAim width game from) (aimed' : IsAim width game to) (count : MasksCount game) where
  abbrev word : ℕ → ℕ
  word = slice_index choice.words

  -- ---- the viewer is server 0
  abbrev gone0 : PlainChoice
  gone0 = moved 0 choice from to game

  abbrev q0 : ProofShare
  q0 = share_of 1 0 choice from game

  abbrev q0' : ProofShare
  q0' = share_of 1 0 gone0 to game

  abbrev f0 : ℕ
  f0 = value (f_of (other_sums 0 choice from game) q0) game.sigma

  abbrev g0 : ℕ
  g0 = value (g_of (other_sums 0 choice from game) q0) game.sigma

  zero_f : value (f_of (other_sums 0 gone0 to game) q0') game.sigma ≡ f0
  unfolding moved moved_words one_share
  zero_f =
      let s = sums_in width 0 (lit< tt) choice from game good aimed fair in
      let s' = sums_in_moved width 0 (lit< tt) choice from to game good aimed aimed' fair in
      mask_keeps game.sigma fair.sigma _ _ _ _ _ (word_in_range choice.words good.words 1) s.x s.m s'.x s'.m count.one count.two

  zero_g : value (g_of (other_sums 0 gone0 to game) q0') game.sigma ≡ g0
  unfolding moved moved_words one_share
  zero_g =
      let s = sums_in width 0 (lit< tt) choice from game good aimed fair in
      let s' = sums_in_moved width 0 (lit< tt) choice from to game good aimed aimed' fair in
      mask_keeps game.sigma fair.sigma _ _ _ _ _ (word_in_range choice.words good.words 3) s.y s.z s'.y s'.z count.one count.two

  zero_a : q0'.a ≡ q0.a
  unfolding moved moved_words one_share opening_of
  zero_a = ap (bit_xor (bit_xor f0 q0.a)) zero_f ∙ number_forth f0 q0.a

  zero_b : q0'.b ≡ q0.b
  unfolding moved moved_words one_share opening_of
  zero_b =
      ap (λ g. bit_xor (bit_xor (product game.sigma g0) q0.b) (product game.sigma g)) zero_g ∙ number_forth (product game.sigma g0) q0.b

  zero_c : q0'.c ≡ q0.c
  unfolding moved moved_words one_share
  zero_c =
      ap (λ a. bit_xor (product (bit_xor (word 9) a) (bit_xor (word 11) q0'.b)) (word 13)) zero_a
      ∙ ap (λ b. bit_xor (product (bit_xor (word 9) q0.a) (bit_xor (word 11) b)) (word 13)) zero_b

  zero_both : opened_of (own_opening 0 gone0 to game) (other_opening 0 gone0 to game) ≡ opened_of (own_opening 0 choice from game) (other_opening 0 choice from game)
  zero_both =
      ap (λ o. opened_of (own_opening 0 gone0 to game) o) (zero_opened width choice from to game good aimed aimed' fair)
      ∙ ap (λ s. opened_of (opening_of s (share_of 0 0 gone0 to game) game.sigma) (other_opening 0 choice from game)) (zero_sums width choice from to game good aimed aimed' fair)
      ∙ ap (λ p. opened_of (opening_of (own_sums 0 choice from game) p game.sigma) (other_opening 0 choice from game)) (zero_proof width choice from to game good aimed aimed' fair)

  zero_closes_any : (sent : Openings) → malicious_closing 0 sent gone0 to game ≡ malicious_closing 0 sent choice from game
  zero_closes_any sent =
      ap (λ o. closing_of 1 q0' game.sigma (opened_of sent o)) (zero_opened width choice from to game good aimed aimed' fair)
      ∙ any_closes 1 q0 q0' game.sigma
      (opened_of (own_opening 0 choice from game) (other_opening 0 choice from game)) (opened_of (own_opening 0 gone0 to game) (other_opening 0 gone0 to game))
      (opened_of sent (other_opening 0 choice from game)) zero_both zero_a zero_b zero_c (zero_closed width choice from to game good aimed aimed' fair)

  pub zero_malicious : (sent : Openings) → malicious_view 0 sent gone0 to game ≡ malicious_view 0 sent choice from game
  unfolding malicious_view
  zero_malicious sent =
      same_view (malicious_view 0 sent gone0 to game) (malicious_view 0 sent choice from game)
      (zero_root width choice from to game good aimed aimed' fair) (zero_part width choice from to game good aimed aimed' fair)
      (zero_proof width choice from to game good aimed aimed' fair) (zero_opened width choice from to game good aimed aimed' fair) (zero_closes_any sent)

  -- ---- the viewer is server 1
  abbrev gone1 : PlainChoice
  gone1 = moved 1 choice from to game

  abbrev q1 : ProofShare
  q1 = share_of 0 1 choice from game

  abbrev q1' : ProofShare
  q1' = share_of 0 1 gone1 to game

  abbrev f1 : ℕ
  f1 = value (f_of (other_sums 1 choice from game) q1) game.sigma

  abbrev g1 : ℕ
  g1 = value (g_of (other_sums 1 choice from game) q1) game.sigma

  one_f : value (f_of (other_sums 1 gone1 to game) q1') game.sigma ≡ f1
  unfolding moved moved_words zero_share one_share
  one_f =
      let s = sums_in width 1 (lit< tt) choice from game good aimed fair in
      let s' = sums_in_moved width 1 (lit< tt) choice from to game good aimed aimed' fair in
      mask_keeps game.sigma fair.sigma _ _ _ _ _ (word_in_range choice.words good.words 0) s.x s.m s'.x s'.m count.one count.two

  one_g : value (g_of (other_sums 1 gone1 to game) q1') game.sigma ≡ g1
  unfolding moved moved_words zero_share one_share
  one_g =
      let s = sums_in width 1 (lit< tt) choice from game good aimed fair in
      let s' = sums_in_moved width 1 (lit< tt) choice from to game good aimed aimed' fair in
      mask_keeps game.sigma fair.sigma _ _ _ _ _ (word_in_range choice.words good.words 2) s.y s.z s'.y s'.z count.one count.two

  one_a : q1'.a ≡ q1.a
  unfolding moved moved_words zero_share one_share opening_of
  one_a = ap (bit_xor (bit_xor f1 q1.a)) one_f ∙ number_forth f1 q1.a

  one_b : q1'.b ≡ q1.b
  unfolding moved moved_words zero_share one_share opening_of
  one_b =
      ap (λ g. bit_xor (bit_xor (product game.sigma g1) q1.b) (product game.sigma g)) one_g ∙ number_forth (product game.sigma g1) q1.b

  abbrev own_c : ℕ
  own_c = (share_of 1 1 choice from game).c

  one_c_stays : q1'.c ≡ q1.c
  unfolding moved moved_words zero_share one_share
  one_c_stays =
      ap (λ a. made_c choice.words a q1'.b own_c) one_a ∙ ap (λ b. made_c choice.words q1.a b own_c) one_b ∙ one_c width choice from to game good aimed aimed' fair

  one_both : opened_of (own_opening 1 gone1 to game) (other_opening 1 gone1 to game) ≡ opened_of (own_opening 1 choice from game) (other_opening 1 choice from game)
  one_both =
      ap (λ o. opened_of (own_opening 1 gone1 to game) o) (one_opened width choice from to game good aimed aimed' fair)
      ∙ ap (λ s. opened_of (opening_of s (share_of 1 1 gone1 to game) game.sigma) (other_opening 1 choice from game)) (one_sums width choice from to game good aimed aimed' fair)
      ∙ ap (λ p. opened_of (opening_of (own_sums 1 choice from game) p game.sigma) (other_opening 1 choice from game)) (one_proof width choice from to game good aimed aimed' fair)

  one_closes_any : (sent : Openings) → malicious_closing 1 sent gone1 to game ≡ malicious_closing 1 sent choice from game
  one_closes_any sent =
      ap (λ o. closing_of 0 q1' game.sigma (opened_of sent o)) (one_opened width choice from to game good aimed aimed' fair)
      ∙ any_closes 0 q1 q1' game.sigma
      (opened_of (own_opening 1 choice from game) (other_opening 1 choice from game)) (opened_of (own_opening 1 gone1 to game) (other_opening 1 gone1 to game))
      (opened_of sent (other_opening 1 choice from game)) one_both one_a one_b one_c_stays (one_closed width choice from to game good aimed aimed' fair)

  pub one_malicious : (sent : Openings) → malicious_view 1 sent gone1 to game ≡ malicious_view 1 sent choice from game
  unfolding malicious_view
  one_malicious sent =
      same_view (malicious_view 1 sent gone1 to game) (malicious_view 1 sent choice from game)
      (one_root width choice from to game good aimed aimed' fair) (one_part width choice from to game good aimed aimed' fair)
      (one_proof width choice from to game good aimed aimed' fair) (one_opened width choice from to game good aimed aimed' fair) (one_closes_any sent)
