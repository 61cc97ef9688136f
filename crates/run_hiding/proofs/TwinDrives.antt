-- Two states of one machine are driven alike through a `finish`, as far as both stay within what is allowed.
use Rattle.std.proofs.Common.{◌≡◌, ℕ, zero, suc, ◌+◌, ◌*◌, true, false, cond, Bool, sym, ap, subst}
use Rattle.token_rules.specs.Driven.{Driven, drain_round_by, drained_by, drains_by, finish_round_by, finished_by, finishes_by, sent_and_drained_by}

-- what is allowed after a move was allowed before it
module _ (S : Type 0) (d : Driven S) (Ok : S → Type 0) (delivers : (s : S) (n : ℕ) → Ok (d.delivers s n) → Ok s) (sends : (s : S) (c : ℕ) → Ok (d.sends s c) → Ok s)
    (ticks : (s : S) → Ok (d.ticks s) → Ok s) (hands : (s : S) (c before : ℕ) → Ok (d.hands_last s c before) → Ok s) where
  round_back : (s : S) → Ok (drain_round_by d s) → Ok s
  round_back s k = ticks s (delivers (d.ticks s) (d.size s) (delivers (d.delivers (d.ticks s) (d.size s)) (d.size s + 1) k))

  pub drains_back : (rounds : ℕ) (s : S) → Ok (drains_by d rounds s) → Ok s
  unfolding drains_by
  drains_back zero s k = k
  drains_back (suc rounds) s k = at_test (d.is_busy s) k (λ k. round_back s (drains_back rounds (drain_round_by d s) k))
    where
      at_test : (t : Bool) → Ok (cond t (drains_by d rounds (drain_round_by d s)) s) → (Ok (drains_by d rounds (drain_round_by d s)) → Ok s) → Ok s
      at_test true k back = back k
      at_test false k back = k

  pub sent_back : (s : S) (c : ℕ) → Ok (sent_and_drained_by d s c) → Ok s
  sent_back s c k = sends s c (delivers (d.sends s c) (d.size s) (drains_back _ (d.delivers (d.sends s c) (d.size s)) k))

  pub attempt_back : (s : S) (c : ℕ) → Ok (finish_round_by d s c) → Ok s
  attempt_back s c k = drains_back _ s (sent_back (drained_by d s) c (hands (sent_and_drained_by d (drained_by d s) c) c (d.size (drained_by d s)) k))

  pub finishes_back : (rounds : ℕ) (s : S) (c : ℕ) → Ok (finishes_by d rounds s c) → Ok s
  unfolding finishes_by
  finishes_back zero s c k = k
  finishes_back (suc rounds) s c k = at_test (d.is_idle s c) k (λ k. attempt_back s c (finishes_back rounds (finish_round_by d s c) c k))
    where
      at_test : (t : Bool) → Ok (cond t s (finishes_by d rounds (finish_round_by d s c) c)) → (Ok (finishes_by d rounds (finish_round_by d s c) c) → Ok s) → Ok s
      at_test true k back = k
      at_test false k back = back k

module _ (S : Type 0) (d : Driven S) (R : S → S → Type 0) (P Q : S → Type 0)
    (delivers : (s t : S) (n : ℕ) → R s t → P (d.delivers s n) → Q (d.delivers t n) → R (d.delivers s n) (d.delivers t n))
    (sends : (s t : S) (c : ℕ) → R s t → P (d.sends s c) → Q (d.sends t c) → R (d.sends s c) (d.sends t c))
    (ticks : (s t : S) → R s t → P (d.ticks s) → Q (d.ticks t) → R (d.ticks s) (d.ticks t))
    (hands : (s t : S) (c before : ℕ) → R s t → P (d.hands_last s c before) → Q (d.hands_last t c before) → R (d.hands_last s c before) (d.hands_last t c before))
    (p_delivers : (s : S) (n : ℕ) → P (d.delivers s n) → P s) (p_sends : (s : S) (c : ℕ) → P (d.sends s c) → P s)
    (p_ticks : (s : S) → P (d.ticks s) → P s) (p_hands : (s : S) (c before : ℕ) → P (d.hands_last s c before) → P s)
    (q_delivers : (s : S) (n : ℕ) → Q (d.delivers s n) → Q s) (q_sends : (s : S) (c : ℕ) → Q (d.sends s c) → Q s)
    (q_ticks : (s : S) → Q (d.ticks s) → Q s) (q_hands : (s : S) (c before : ℕ) → Q (d.hands_last s c before) → Q s)
    (size : (s t : S) → R s t → d.size t ≡ d.size s) (busy : (s t : S) → R s t → d.is_busy t ≡ d.is_busy s)
    (outstanding : (s t : S) → R s t → d.outstanding t ≡ d.outstanding s) (idle : (s t : S) (c : ℕ) → R s t → d.is_idle t c ≡ d.is_idle s c)
    (waiting : (s t : S) (c : ℕ) → R s t → d.waiting t c ≡ d.waiting s c) where
  -- a delivery of the same place, told by either
  at_place : (s t : S) (n m : ℕ) → m ≡ n → R s t → P (d.delivers s n) → Q (d.delivers t m) → R (d.delivers s n) (d.delivers t m)
  at_place s t n m e r p q =
      subst (λ k. R (d.delivers s n) (d.delivers t k)) (sym e) (delivers s t n r p (subst (λ k. Q (d.delivers t k)) e q))

  round : (s t : S) → R s t → P (drain_round_by d s) → Q (drain_round_by d t) → R (drain_round_by d s) (drain_round_by d t)
  round s t r p q =
      let e = size s t r in
      let p2 = p_delivers (d.delivers (d.ticks s) (d.size s)) (d.size s + 1) p in
      let q2 = q_delivers (d.delivers (d.ticks t) (d.size t)) (d.size t + 1) q in
      let a = ticks s t r (p_delivers (d.ticks s) (d.size s) p2) (q_delivers (d.ticks t) (d.size t) q2) in
      let c = at_place (d.ticks s) (d.ticks t) (d.size s) (d.size t) e a p2 q2 in
      at_place (d.delivers (d.ticks s) (d.size s)) (d.delivers (d.ticks t) (d.size t)) (d.size s + 1) (d.size t + 1) (ap (λ n. n + 1) e) c p q

  drains : (rounds : ℕ) (s t : S) → R s t → P (drains_by d rounds s) → Q (drains_by d rounds t) → R (drains_by d rounds s) (drains_by d rounds t)
  unfolding drains_by
  drains zero s t r p q = r
  drains (suc rounds) s t r p q = at_test (d.is_busy s) (d.is_busy t) (busy s t r) p q (drains rounds (drain_round_by d s) (drain_round_by d t))
    where
      at_test : (x y : Bool) → y ≡ x → P (cond x (drains_by d rounds (drain_round_by d s)) s) → Q (cond y (drains_by d rounds (drain_round_by d t)) t)
          → (R (drain_round_by d s) (drain_round_by d t) → P (drains_by d rounds (drain_round_by d s)) → Q (drains_by d rounds (drain_round_by d t)) → R (drains_by d rounds (drain_round_by d s)) (drains_by d rounds (drain_round_by d t)))
          → R (cond x (drains_by d rounds (drain_round_by d s)) s) (cond y (drains_by d rounds (drain_round_by d t)) t)
      at_test true true e p q next =
          next
          (round s t r (drains_back S d P p_delivers p_sends p_ticks p_hands rounds (drain_round_by d s) p) (drains_back S d Q q_delivers q_sends q_ticks q_hands rounds (drain_round_by d t) q)) p q
      at_test false false e p q next = r
      at_test true false e p q next = absurd (cc e)
      at_test false true e p q next = absurd (cc e)

  drained : (s t : S) → R s t → P (drained_by d s) → Q (drained_by d t) → R (drained_by d s) (drained_by d t)
  drained s t r p q =
      let e = outstanding s t r in
      subst (λ n. R (drained_by d s) (drains_by d (2 * n) t)) (sym e) (drains (2 * d.outstanding s) s t r p (subst (λ n. Q (drains_by d (2 * n) t)) e q))

  sent : (s t : S) (c : ℕ) → R s t → P (sent_and_drained_by d s c) → Q (sent_and_drained_by d t c) → R (sent_and_drained_by d s c) (sent_and_drained_by d t c)
  sent s t c r p q =
      let e = size s t r in
      let p2 = drains_back S d P p_delivers p_sends p_ticks p_hands _ (d.delivers (d.sends s c) (d.size s)) p in
      let q2 = drains_back S d Q q_delivers q_sends q_ticks q_hands _ (d.delivers (d.sends t c) (d.size t)) q in
      let a = sends s t c r (p_delivers (d.sends s c) (d.size s) p2) (q_delivers (d.sends t c) (d.size t) q2) in
      drained (d.delivers (d.sends s c) (d.size s)) (d.delivers (d.sends t c) (d.size t)) (at_place (d.sends s c) (d.sends t c) (d.size s) (d.size t) e a p2 q2) p q

  attempt : (s t : S) (c : ℕ) → R s t → P (finish_round_by d s c) → Q (finish_round_by d t c) → R (finish_round_by d s c) (finish_round_by d t c)
  attempt s t c r p q =
      let p2 = p_hands (sent_and_drained_by d (drained_by d s) c) c (d.size (drained_by d s)) p in
      let q2 = q_hands (sent_and_drained_by d (drained_by d t) c) c (d.size (drained_by d t)) q in
      let a = drained s t r (sent_back S d P p_delivers p_sends p_ticks p_hands (drained_by d s) c p2) (sent_back S d Q q_delivers q_sends q_ticks q_hands (drained_by d t) c q2) in
      let e = size (drained_by d s) (drained_by d t) a in
      let served = sent (drained_by d s) (drained_by d t) c a p2 q2 in
      subst (λ n. R (finish_round_by d s c) (d.hands_last (sent_and_drained_by d (drained_by d t) c) c n)) (sym e)
      (hands (sent_and_drained_by d (drained_by d s) c) (sent_and_drained_by d (drained_by d t) c) c (d.size (drained_by d s)) served p
      (subst (λ n. Q (d.hands_last (sent_and_drained_by d (drained_by d t) c) c n)) e q))

  finishes : (rounds : ℕ) (s t : S) (c : ℕ) → R s t → P (finishes_by d rounds s c) → Q (finishes_by d rounds t c) → R (finishes_by d rounds s c) (finishes_by d rounds t c)
  unfolding finishes_by
  finishes zero s t c r p q = r
  finishes (suc rounds) s t c r p q = at_test (d.is_idle s c) (d.is_idle t c) (idle s t c r) p q (finishes rounds (finish_round_by d s c) (finish_round_by d t c) c)
    where
      at_test : (x y : Bool) → y ≡ x → P (cond x s (finishes_by d rounds (finish_round_by d s c) c)) → Q (cond y t (finishes_by d rounds (finish_round_by d t c) c))
          → (R (finish_round_by d s c) (finish_round_by d t c) → P (finishes_by d rounds (finish_round_by d s c) c) → Q (finishes_by d rounds (finish_round_by d t c) c) → R (finishes_by d rounds (finish_round_by d s c) c) (finishes_by d rounds (finish_round_by d t c) c))
          → R (cond x s (finishes_by d rounds (finish_round_by d s c) c)) (cond y t (finishes_by d rounds (finish_round_by d t c) c))
      at_test true true e p q next = r
      at_test false false e p q next =
          next
          (attempt s t c r (finishes_back S d P p_delivers p_sends p_ticks p_hands rounds (finish_round_by d s c) c p) (finishes_back S d Q q_delivers q_sends q_ticks q_hands rounds (finish_round_by d t c) c q)) p q
      at_test true false e p q next = absurd (cc e)
      at_test false true e p q next = absurd (cc e)

  pub finished_alike : (s t : S) (c : ℕ) → R s t → P (finished_by d s c) → Q (finished_by d t c) → R (finished_by d s c) (finished_by d t c)
  unfolding finished_by
  finished_alike s t c r p q =
      let e = waiting s t c r in
      subst (λ n. R (finishes_by d (4 * (d.waiting s c + 1)) s c) (finishes_by d (4 * (n + 1)) t c)) (sym e)
      (finishes (4 * (d.waiting s c + 1)) s t c r p (subst (λ n. Q (finishes_by d (4 * (n + 1)) t c)) e q))
