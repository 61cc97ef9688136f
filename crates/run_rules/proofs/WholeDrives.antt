-- What a driven machine keeps move by move it keeps through a `finish`, as far as it stays within what is allowed. What is
-- allowed after a move was allowed before it.
use Rattle.std.proofs.Common.{◌≡◌, ◌∙◌, ℕ, zero, suc, ◌+◌, ◌*◌, true, false, cond, Bool, refl, ap}
use Rattle.token_rules.specs.Driven.{Driven, drain_round_by, drained_by, drains_by, finish_round_by, finished_by, finishes_by, sent_and_drained_by}

module _ (S : Type 0) (d : Driven S) (R : S → Type 0) (Ok : S → Type 0)
    (on_delivers : (s : S) (n : ℕ) → R s → Ok (d.delivers s n) → R (d.delivers s n))
    (on_sends : (s : S) (c : ℕ) → R s → Ok (d.sends s c) → R (d.sends s c))
    (on_ticks : (s : S) → R s → Ok (d.ticks s) → R (d.ticks s))
    (on_hands : (s : S) (c before : ℕ) → R s → Ok (d.hands_last s c before) → R (d.hands_last s c before))
    (back_delivers : (s : S) (n : ℕ) → Ok (d.delivers s n) → Ok s)
    (back_sends : (s : S) (c : ℕ) → Ok (d.sends s c) → Ok s)
    (back_ticks : (s : S) → Ok (d.ticks s) → Ok s)
    (back_hands : (s : S) (c before : ℕ) → Ok (d.hands_last s c before) → Ok s) where
  -- ---- what is allowed after was allowed before

  round_back : (s : S) → Ok (drain_round_by d s) → Ok s
  round_back s k = back_ticks s (back_delivers (d.ticks s) (d.size s) (back_delivers (d.delivers (d.ticks s) (d.size s)) (d.size s + 1) k))

  drains_back : (rounds : ℕ) (s : S) → Ok (drains_by d rounds s) → Ok s
  unfolding drains_by
  drains_back zero s k = k
  drains_back (suc rounds) s k = at_test (d.is_busy s) k (λ k. round_back s (drains_back rounds (drain_round_by d s) k))
    where
      at_test : (t : Bool) → Ok (cond t (drains_by d rounds (drain_round_by d s)) s) → (Ok (drains_by d rounds (drain_round_by d s)) → Ok s) → Ok s
      at_test true k back = back k
      at_test false k back = k

  drained_back : (s : S) → Ok (drained_by d s) → Ok s
  drained_back s k = drains_back (2 * d.outstanding s) s k

  sent_back : (s : S) (c : ℕ) → Ok (sent_and_drained_by d s c) → Ok s
  sent_back s c k = back_sends s c (back_delivers (d.sends s c) (d.size s) (drained_back (d.delivers (d.sends s c) (d.size s)) k))

  round_finished_back : (s : S) (c : ℕ) → Ok (finish_round_by d s c) → Ok s
  round_finished_back s c k = drained_back s (sent_back (drained_by d s) c (back_hands (sent_and_drained_by d (drained_by d s) c) c (d.size (drained_by d s)) k))

  finishes_back : (rounds : ℕ) (s : S) (c : ℕ) → Ok (finishes_by d rounds s c) → Ok s
  unfolding finishes_by
  finishes_back zero s c k = k
  finishes_back (suc rounds) s c k = at_test (d.is_idle s c) k (λ k. round_finished_back s c (finishes_back rounds (finish_round_by d s c) c k))
    where
      at_test : (t : Bool) → Ok (cond t s (finishes_by d rounds (finish_round_by d s c) c)) → (Ok (finishes_by d rounds (finish_round_by d s c) c) → Ok s) → Ok s
      at_test true k back = k
      at_test false k back = back k

  pub finished_back : (s : S) (c : ℕ) → Ok (finished_by d s c) → Ok s
  unfolding finished_by
  finished_back s c k = finishes_back (4 * (d.waiting s c + 1)) s c k

  -- ---- what is kept

  round_keeps : (s : S) → R s → Ok (drain_round_by d s) → R (drain_round_by d s)
  round_keeps s r k =
      let n = d.size s in
      let k2 = back_delivers (d.delivers (d.ticks s) n) (n + 1) k in
      let a = on_ticks s r (back_delivers (d.ticks s) n k2) in
      on_delivers (d.delivers (d.ticks s) n) (n + 1) (on_delivers (d.ticks s) n a k2) k

  drains_keep : (rounds : ℕ) (s : S) → R s → Ok (drains_by d rounds s) → R (drains_by d rounds s)
  unfolding drains_by
  drains_keep zero s r k = r
  drains_keep (suc rounds) s r k = at_test (d.is_busy s) k
      (λ m. drains_keep rounds (drain_round_by d s) (round_keeps s r (drains_back rounds (drain_round_by d s) m)) m)
    where
      at_test : (t : Bool) → Ok (cond t (drains_by d rounds (drain_round_by d s)) s)
          → (Ok (drains_by d rounds (drain_round_by d s)) → R (drains_by d rounds (drain_round_by d s))) → R (cond t (drains_by d rounds (drain_round_by d s)) s)
      at_test true k next = next k
      at_test false k next = r

  drained_keeps : (s : S) → R s → Ok (drained_by d s) → R (drained_by d s)
  drained_keeps s r k = drains_keep (2 * d.outstanding s) s r k

  sent_keeps : (s : S) (c : ℕ) → R s → Ok (sent_and_drained_by d s c) → R (sent_and_drained_by d s c)
  sent_keeps s c r k =
      let n = d.size s in
      let k2 = drained_back (d.delivers (d.sends s c) n) k in
      let a = on_sends s c r (back_delivers (d.sends s c) n k2) in
      drained_keeps (d.delivers (d.sends s c) n) (on_delivers (d.sends s c) n a k2) k

  finish_round_keeps : (s : S) (c : ℕ) → R s → Ok (finish_round_by d s c) → R (finish_round_by d s c)
  finish_round_keeps s c r k =
      let n = d.size (drained_by d s) in
      let k2 = back_hands (sent_and_drained_by d (drained_by d s) c) c n k in
      let a = drained_keeps s r (sent_back (drained_by d s) c k2) in
      on_hands (sent_and_drained_by d (drained_by d s) c) c n (sent_keeps (drained_by d s) c a k2) k

  finishes_keep : (rounds : ℕ) (s : S) (c : ℕ) → R s → Ok (finishes_by d rounds s c) → R (finishes_by d rounds s c)
  unfolding finishes_by
  finishes_keep zero s c r k = r
  finishes_keep (suc rounds) s c r k = at_test (d.is_idle s c) k
      (λ m. finishes_keep rounds (finish_round_by d s c) c (finish_round_keeps s c r (finishes_back rounds (finish_round_by d s c) c m)) m)
    where
      at_test : (t : Bool) → Ok (cond t s (finishes_by d rounds (finish_round_by d s c) c))
          → (Ok (finishes_by d rounds (finish_round_by d s c) c) → R (finishes_by d rounds (finish_round_by d s c) c)) → R (cond t s (finishes_by d rounds (finish_round_by d s c) c))
      at_test true k next = r
      at_test false k next = next k

  pub finished_keeps : (s : S) (c : ℕ) → R s → Ok (finished_by d s c) → R (finished_by d s c)
  unfolding finished_by
  finished_keeps s c r k = finishes_keep (4 * (d.waiting s c + 1)) s c r k

  -- ---- a part of the machine that is driven alike, as far as the machine stays within what is allowed

  module _ (T : Type 0) (e : Driven T) (part : S → T)
      (size : (s : S) → R s → d.size s ≡ e.size (part s)) (busy : (s : S) → R s → d.is_busy s ≡ e.is_busy (part s))
      (outstanding : (s : S) → R s → d.outstanding s ≡ e.outstanding (part s))
      (idle : (s : S) (c : ℕ) → R s → d.is_idle s c ≡ e.is_idle (part s) c) (waiting : (s : S) (c : ℕ) → R s → d.waiting s c ≡ e.waiting (part s) c)
      (delivers : (s : S) (n : ℕ) → R s → Ok (d.delivers s n) → part (d.delivers s n) ≡ e.delivers (part s) n)
      (sends : (s : S) (c : ℕ) → R s → Ok (d.sends s c) → part (d.sends s c) ≡ e.sends (part s) c)
      (ticks : (s : S) → R s → Ok (d.ticks s) → part (d.ticks s) ≡ e.ticks (part s))
      (hands : (s : S) (c before : ℕ) → R s → Ok (d.hands_last s c before) → part (d.hands_last s c before) ≡ e.hands_last (part s) c before) where
    round_part : (s : S) → R s → Ok (drain_round_by d s) → part (drain_round_by d s) ≡ drain_round_by e (part s)
    round_part s r k =
        let n = d.size s in
        let k2 = back_delivers (d.delivers (d.ticks s) n) (n + 1) k in
        let k1 = back_delivers (d.ticks s) n k2 in
        let a = on_ticks s r k1 in
        let b = on_delivers (d.ticks s) n a k2 in
        delivers (d.delivers (d.ticks s) n) (n + 1) b k
        ∙ ap (λ t. e.delivers t (n + 1)) (delivers (d.ticks s) n a k2 ∙ ap (λ t. e.delivers t n) (ticks s r k1))
        ∙ ap (λ n. e.delivers (e.delivers (e.ticks (part s)) n) (n + 1)) (size s r)

    drains_part : (rounds : ℕ) (s : S) → R s → Ok (drains_by d rounds s) → part (drains_by d rounds s) ≡ drains_by e rounds (part s)
    unfolding drains_by
    drains_part zero s r k = refl
    drains_part (suc rounds) s r k =
        at_test (d.is_busy s) k (λ m.
        let b = drains_back rounds (drain_round_by d s) m in
        drains_part rounds (drain_round_by d s) (round_keeps s r b) m ∙ ap (drains_by e rounds) (round_part s r b))
        ∙ ap (λ t. cond t (drains_by e rounds (drain_round_by e (part s))) (part s)) (busy s r)
      where
        at_test : (t : Bool) → Ok (cond t (drains_by d rounds (drain_round_by d s)) s)
            → (Ok (drains_by d rounds (drain_round_by d s)) → part (drains_by d rounds (drain_round_by d s)) ≡ drains_by e rounds (drain_round_by e (part s)))
            → part (cond t (drains_by d rounds (drain_round_by d s)) s) ≡ cond t (drains_by e rounds (drain_round_by e (part s))) (part s)
        at_test true k next = next k
        at_test false k next = refl

    drained_part : (s : S) → R s → Ok (drained_by d s) → part (drained_by d s) ≡ drained_by e (part s)
    drained_part s r k = drains_part (2 * d.outstanding s) s r k ∙ ap (λ n. drains_by e (2 * n) (part s)) (outstanding s r)

    sent_part : (s : S) (c : ℕ) → R s → Ok (sent_and_drained_by d s c) → part (sent_and_drained_by d s c) ≡ sent_and_drained_by e (part s) c
    sent_part s c r k =
        let n = d.size s in
        let k2 = drained_back (d.delivers (d.sends s c) n) k in
        let k1 = back_delivers (d.sends s c) n k2 in
        let a = on_sends s c r k1 in
        drained_part (d.delivers (d.sends s c) n) (on_delivers (d.sends s c) n a k2) k
        ∙ ap (λ t. drained_by e t) (delivers (d.sends s c) n a k2 ∙ ap (λ t. e.delivers t n) (sends s c r k1) ∙ ap (e.delivers (e.sends (part s) c)) (size s r))

    finish_round_part : (s : S) (c : ℕ) → R s → Ok (finish_round_by d s c) → part (finish_round_by d s c) ≡ finish_round_by e (part s) c
    finish_round_part s c r k =
        let n = d.size (drained_by d s) in
        let k2 = back_hands (sent_and_drained_by d (drained_by d s) c) c n k in
        let k1 = sent_back (drained_by d s) c k2 in
        let a = drained_keeps s r k1 in
        let b = sent_keeps (drained_by d s) c a k2 in
        hands (sent_and_drained_by d (drained_by d s) c) c n b k
        ∙ ap (λ t. e.hands_last t c n) (sent_part (drained_by d s) c a k2 ∙ ap (λ t. sent_and_drained_by e t c) (drained_part s r k1))
        ∙ ap (e.hands_last (sent_and_drained_by e (drained_by e (part s)) c) c) (size (drained_by d s) a ∙ ap e.size (drained_part s r k1))

    finishes_part : (rounds : ℕ) (s : S) (c : ℕ) → R s → Ok (finishes_by d rounds s c) → part (finishes_by d rounds s c) ≡ finishes_by e rounds (part s) c
    unfolding finishes_by
    finishes_part zero s c r k = refl
    finishes_part (suc rounds) s c r k =
        at_test (d.is_idle s c) k (λ m.
        let b = finishes_back rounds (finish_round_by d s c) c m in
        finishes_part rounds (finish_round_by d s c) c (finish_round_keeps s c r b) m ∙ ap (λ t. finishes_by e rounds t c) (finish_round_part s c r b))
        ∙ ap (λ t. cond t (part s) (finishes_by e rounds (finish_round_by e (part s) c) c)) (idle s c r)
      where
        at_test : (t : Bool) → Ok (cond t s (finishes_by d rounds (finish_round_by d s c) c))
            → (Ok (finishes_by d rounds (finish_round_by d s c) c) → part (finishes_by d rounds (finish_round_by d s c) c) ≡ finishes_by e rounds (finish_round_by e (part s) c) c)
            → part (cond t s (finishes_by d rounds (finish_round_by d s c) c)) ≡ cond t (part s) (finishes_by e rounds (finish_round_by e (part s) c) c)
        at_test true k next = refl
        at_test false k next = next k

    pub finished_part : (s : S) (c : ℕ) → R s → Ok (finished_by d s c) → part (finished_by d s c) ≡ finished_by e (part s) c
    unfolding finished_by
    finished_part s c r k = finishes_part (4 * (d.waiting s c + 1)) s c r k ∙ ap (λ n. finishes_by e (4 * (n + 1)) (part s) c) (waiting s c r)
