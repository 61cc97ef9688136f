-- A machine that keeps a relation to the token run move by move keeps it through a `finish`, as far as the token run
-- stays within what is allowed. What is allowed after a move was allowed before it.
use Rattle.std.proofs.Common.{◌≡◌, ℕ, zero, suc, ◌+◌, ◌-◌, ◌*◌, true, false, cond, nat_eq, nat_lt, Bool, length, sym, subst}
use Rattle.token_rules.specs.Tokens.{Oracle, World}
use Rattle.token_rules.specs.Run.{client_sends, delivers_at, drain_round, drained, drains, finish_round, finished, finishes, handed_last, sent_and_drained, ticks}
use Rattle.token_rules.specs.Driven.{Driven, drain_round_by, drained_by, drains_by, finish_round_by, finished_by, finishes_by, sent_and_drained_by}

module _ (S : Type 0) (d : Driven S) (o : Oracle) (R : S → World → Type 0) (Ok : World → Type 0)
    (size : (s : S) (w : World) → R s w → d.size s ≡ length w.pool)
    (busy : (s : S) (w : World) → R s w → d.is_busy s ≡ nat_lt w.acknowledged (length w.commands))
    (outstanding : (s : S) (w : World) → R s w → d.outstanding s ≡ length w.commands - w.acknowledged)
    (idle : (s : S) (w : World) (c : ℕ) → R s w → d.is_idle s c ≡ nat_eq (w.lanes c).step 0)
    (waiting : (s : S) (w : World) (c : ℕ) → R s w → d.waiting s c ≡ length (w.requests c).waiting)
    (on_delivers : (s : S) (w : World) (n : ℕ) → R s w → Ok (delivers_at o w n) → R (d.delivers s n) (delivers_at o w n))
    (on_sends : (s : S) (w : World) (c : ℕ) → R s w → Ok (client_sends w c) → R (d.sends s c) (client_sends w c))
    (on_ticks : (s : S) (w : World) → R s w → Ok (ticks w) → R (d.ticks s) (ticks w))
    (on_hands : (s : S) (w : World) (c before : ℕ) → R s w → Ok (handed_last o w c before) → R (d.hands_last s c before) (handed_last o w c before))
    (back_delivers : (w : World) (n : ℕ) → Ok (delivers_at o w n) → Ok w)
    (back_sends : (w : World) (c : ℕ) → Ok (client_sends w c) → Ok w)
    (back_ticks : (w : World) → Ok (ticks w) → Ok w)
    (back_hands : (w : World) (c before : ℕ) → Ok (handed_last o w c before) → Ok w) where
  -- ---- what is allowed after was allowed before

  round_back : (w : World) → Ok (drain_round o w) → Ok w
  unfolding drain_round
  round_back w k = back_ticks w (back_delivers (ticks w) (length w.pool) (back_delivers (delivers_at o (ticks w) (length w.pool)) (length w.pool + 1) k))

  drains_back : (rounds : ℕ) (w : World) → Ok (drains o rounds w) → Ok w
  unfolding drains
  drains_back zero w k = k
  drains_back (suc rounds) w k = at_test (nat_lt w.acknowledged (length w.commands)) k (λ k. round_back w (drains_back rounds (drain_round o w) k))
    where
      at_test : (t : Bool) → Ok (cond t (drains o rounds (drain_round o w)) w)
          → (Ok (drains o rounds (drain_round o w)) → Ok w) → Ok w
      at_test true k back = back k
      at_test false k back = k

  drained_back : (w : World) → Ok (drained o w) → Ok w
  unfolding drained
  drained_back w k = drains_back (2 * (length w.commands - w.acknowledged)) w k

  sent_back : (w : World) (c : ℕ) → Ok (sent_and_drained o w c) → Ok w
  unfolding sent_and_drained
  sent_back w c k = back_sends w c (back_delivers (client_sends w c) (length w.pool) (drained_back (delivers_at o (client_sends w c) (length w.pool)) k))

  finish_round_back : (w : World) (c : ℕ) → Ok (finish_round o w c) → Ok w
  unfolding finish_round
  finish_round_back w c k = drained_back w (sent_back (drained o w) c (back_hands (sent_and_drained o (drained o w) c) c (length (drained o w).pool) k))

  finishes_back : (rounds : ℕ) (w : World) (c : ℕ) → Ok (finishes o rounds w c) → Ok w
  unfolding finishes
  finishes_back zero w c k = k
  finishes_back (suc rounds) w c k = at_test (nat_eq (w.lanes c).step 0) k (λ k. finish_round_back w c (finishes_back rounds (finish_round o w c) c k))
    where
      at_test : (t : Bool) → Ok (cond t w (finishes o rounds (finish_round o w c) c))
          → (Ok (finishes o rounds (finish_round o w c) c) → Ok w) → Ok w
      at_test true k back = k
      at_test false k back = back k

  pub finished_back : (w : World) (c : ℕ) → Ok (finished o w c) → Ok w
  unfolding finished
  finished_back w c k = finishes_back (4 * (length (w.requests c).waiting + 1)) w c k

  -- ---- the relation is kept

  round_follows : (s : S) (w : World) → R s w → Ok (drain_round o w)
      → R (drain_round_by d s) (drain_round o w)
  unfolding drain_round
  round_follows s w r k =
      let n = length w.pool in
      let k2 = back_delivers (delivers_at o (ticks w) n) (n + 1) k in
      let k1 = back_delivers (ticks w) n k2 in
      let a = on_ticks s w r k1 in
      let b = on_delivers (d.ticks s) (ticks w) n a k2 in
      let e = on_delivers (d.delivers (d.ticks s) n) (delivers_at o (ticks w) n) (n + 1) b k in
      subst (λ m. R (d.delivers (d.delivers (d.ticks s) m) (m + 1)) (delivers_at o (delivers_at o (ticks w) n) (n + 1))) (sym (size s w r)) e

  drains_follow : (rounds : ℕ) (s : S) (w : World) → R s w → Ok (drains o rounds w)
      → R (drains_by d rounds s) (drains o rounds w)
  unfolding drains drains_by
  drains_follow zero s w r k = r
  drains_follow (suc rounds) s w r k = at_test (d.is_busy s) (nat_lt w.acknowledged (length w.commands)) (busy s w r) k
      (λ m. drains_follow rounds (drain_round_by d s) (drain_round o w) (round_follows s w r (drains_back rounds (drain_round o w) m)) m)
    where
      at_test : (t u : Bool) → t ≡ u → Ok (cond u (drains o rounds (drain_round o w)) w)
          → (Ok (drains o rounds (drain_round o w)) → R (drains_by d rounds (drain_round_by d s)) (drains o rounds (drain_round o w)))
          → R (cond t (drains_by d rounds (drain_round_by d s)) s) (cond u (drains o rounds (drain_round o w)) w)
      at_test true true e k next = next k
      at_test false false e k next = r
      at_test true false e k next = absurd (cc)
      at_test false true e k next = absurd (cc)

  drained_follows : (s : S) (w : World) → R s w → Ok (drained o w) → R (drained_by d s) (drained o w)
  unfolding drained
  drained_follows s w r k =
      subst (λ n. R (drains_by d (2 * n) s) (drains o (2 * (length w.commands - w.acknowledged)) w)) (sym (outstanding s w r)) (drains_follow (2 * (length w.commands - w.acknowledged)) s w r k)

  sent_follows : (s : S) (w : World) (c : ℕ) → R s w → Ok (sent_and_drained o w c)
      → R (sent_and_drained_by d s c) (sent_and_drained o w c)
  unfolding sent_and_drained
  sent_follows s w c r k =
      let n = length w.pool in
      let v = client_sends w c in
      let k2 = drained_back (delivers_at o v n) k in
      let a = on_sends s w c r (back_delivers v n k2) in
      let b = on_delivers (d.sends s c) v n a k2 in
      subst (λ m. R (drained_by d (d.delivers (d.sends s c) m)) (drained o (delivers_at o v n))) (sym (size s w r)) (drained_follows (d.delivers (d.sends s c) n) (delivers_at o v n) b k)

  finish_round_follows : (s : S) (w : World) (c : ℕ) → R s w → Ok (finish_round o w c)
      → R (finish_round_by d s c) (finish_round o w c)
  unfolding finish_round
  finish_round_follows s w c r k =
      let n = length (drained o w).pool in
      let v = sent_and_drained o (drained o w) c in
      let k2 = back_hands v c n k in
      let k1 = sent_back (drained o w) c k2 in
      let a = drained_follows s w r k1 in
      let b = sent_follows (drained_by d s) (drained o w) c a k2 in
      subst (λ m. R (d.hands_last (sent_and_drained_by d (drained_by d s) c) c m) (handed_last o v c n)) (sym (size (drained_by d s) (drained o w) a))
      (on_hands (sent_and_drained_by d (drained_by d s) c) v c n b k)

  finishes_follow : (rounds : ℕ) (s : S) (w : World) (c : ℕ) → R s w → Ok (finishes o rounds w c)
      → R (finishes_by d rounds s c) (finishes o rounds w c)
  unfolding finishes finishes_by
  finishes_follow zero s w c r k = r
  finishes_follow (suc rounds) s w c r k = at_test (d.is_idle s c) (nat_eq (w.lanes c).step 0) (idle s w c r) k
      (λ m. finishes_follow rounds (finish_round_by d s c) (finish_round o w c) c (finish_round_follows s w c r (finishes_back rounds (finish_round o w c) c m)) m)
    where
      at_test : (t u : Bool) → t ≡ u → Ok (cond u w (finishes o rounds (finish_round o w c) c))
          → (Ok (finishes o rounds (finish_round o w c) c) → R (finishes_by d rounds (finish_round_by d s c) c) (finishes o rounds (finish_round o w c) c))
          → R (cond t s (finishes_by d rounds (finish_round_by d s c) c)) (cond u w (finishes o rounds (finish_round o w c) c))
      at_test true true e k next = r
      at_test false false e k next = next k
      at_test true false e k next = absurd (cc)
      at_test false true e k next = absurd (cc)

  pub finished_follows : (s : S) (w : World) (c : ℕ) → R s w → Ok (finished o w c)
      → R (finished_by d s c) (finished o w c)
  unfolding finished finished_by
  finished_follows s w c r k =
      subst (λ n. R (finishes_by d (4 * (n + 1)) s c) (finishes o (4 * (length (w.requests c).waiting + 1)) w c)) (sym (waiting s w c r))
      (finishes_follow (4 * (length (w.requests c).waiting + 1)) s w c r k)
