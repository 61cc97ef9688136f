-- A command comes to the helper: it is the next one, or one whose reply is kept, or it is passed over.
use Rattle.std.proofs.Common.{◌≡◌, ℕ, zero, suc, ◌<◌, ◌≤◌, ◌+◌, ◌-◌, ◌&&◌, cond, nat_eq, nat_lt, nat_le, true, false, List, [], ◌∷◌, length, drop, take, Some, slice_get, slice_index_or, refl, sym, ap, ◌∙◌, subst, inl, inr, arith, Bool}
use Rattle.std.proofs.lemmas.Bool.{cases_Bool, eq-eqb, eqb-true, leb-true, ltb-true, ltb-false, le-leb, false_from_ne_true}
use Rattle.std.proofs.lemmas.List.{length-take}
use Rattle.frame_rules.specs.Frames as frame
use Rattle.frame_rules.specs.Frames.{PlainFrame, PlainBody}
use Rattle.mailbox_rules.specs.Requests.{Request, Register, Line, lines_of, AddBox, request_at}
use Rattle.token_rules.specs.Tokens as token
use Rattle.token_rules.specs.Tokens.{Token, World, Oracle}
use Rattle.token_rules.specs.Rows.{carried_row, arrival_of, Next, Kept, Passed}
use Rattle.token_rules.specs.Run.{carries, carries_next, command_comes, comes, sent_of}
use Rattle.token_rules.specs.Stages.{Stage}
use Rattle.token_rules.specs.Invariant.{Coherent, Claims, Numbered, state}
use Rattle.token_rules.proofs.Lists.{taken_get, get_taken}
use Rattle.frame_rules.specs.Whole.{is_command}
use Rattle.step_rules.specs.Helper as helper
use Rattle.step_rules.specs.HelperCommands as steps
use Rattle.run_rules.specs.Letters.{Letter, FrameWorld, ToHelperLink}
use Rattle.run_rules.specs.Run as frames
use Rattle.run_rules.specs.Book.{Book, request_of}
use Rattle.run_rules.specs.Frames.{frame_with, frame_of, command_body}
use Rattle.run_rules.specs.Follows.{Spelled, IsFrameOf, AreReplies, Carries, Within, Sound, Follows}
use Rattle.run_rules.proofs.LeaderClients.{posts_follow}
use Rattle.run_rules.proofs.HelperCommands.{IsReply, few_replies}
use Rattle.run_rules.proofs.HelperRegisters.{line}
use Rattle.run_rules.proofs.HelperRegistered.{linked_spelled, next_follows}

-- ---- a kept reply

get_dropped : {X : Type 0} (j i : ℕ) (xs : List X) → slice_get (drop j xs) i ≡ slice_get xs (j + i)
get_dropped zero i xs = let e : 0 + i ≡ i = omega arith in ap (slice_get xs) (sym e)
get_dropped (suc j) i [] = refl
get_dropped (suc j) i (x ∷ xs) =
    let e : suc j + i ≡ suc (j + i) = omega arith in get_dropped j i xs ∙ ap (slice_get (x ∷ xs)) (sym e)

replies_at : (b : Book) (n : ℕ) (xs : List Line) (rs : List (List ℕ)) (i : ℕ) (x : Line)
    → AreReplies b n xs rs → slice_get xs i ≡ Some x → IsReply b (n + i) x (slice_index_or rs i [])
replies_at b n (y ∷ xs) (r ∷ rs) zero x h e =
    let same : y ≡ x = cc in let at : n + 0 ≡ n = omega arith in rw at (subst (λ z. IsReply b n z r) same h.0)
replies_at b n (y ∷ xs) (r ∷ rs) (suc i) x h e =
    let at : n + suc i ≡ suc n + i = omega arith in rw at (replies_at b (suc n) xs rs i x h.1 e)
replies_at b n [] rs i x h e = absurd (cc e)
replies_at b n (y ∷ xs) [] i x h e = absurd h

kept_at : (b : Book) (k n : ℕ) (lines : List Line) (x : Line) (rs : List (List ℕ)) (place : ℕ)
    → length lines ≡ k → AreReplies b (suc (k - length rs)) (drop (k - length rs) lines) rs
    → n ≡ place + 1 → slice_get lines place ≡ Some x → k + 1 ≤ n + length rs → n ≤ k
    → IsReply b n x (slice_index_or rs (n + length rs - (k + 1)) [])
kept_at b k n lines x rs place count h next is low high =
    let m = length rs in
    let few = few_replies b k lines rs count h in
    let i = n + m - (k + 1) in
    let at : k - m + i ≡ place = omega (arith, next, low, high, few) in
    let number : suc (k - m) + i ≡ n = omega (arith, next, low, high, few) in
    let got : slice_get (drop (k - m) lines) i ≡ Some x = get_dropped (k - m) i lines ∙ ap (slice_get lines) at ∙ is in
    subst (λ j. IsReply b j x (slice_index_or rs i [])) number (replies_at b (suc (k - m)) (drop (k - m) lines) rs i x h got)

-- ---- any command

module _ (b : Book) (o : Oracle) (f : FrameWorld) (w : World) (p : ℕ → Stage) (n : ℕ) (x : Line) (g : PlainFrame)
    (room : 0 < b.settings.window) (ok : Coherent w p) (number : Numbered (state w p) n x) (h : Follows b f w) (link : g.link ≡ n) where
  lines : length (lines_of w.journal) ≡ w.carried
  lines = let l = ap length ok.journal ∙ length-take w.carried w.commands in let k = ok.carried in omega (arith, l, k)

  -- it isn't the next one
  old_follows : (low kept known : Bool)
      → (low ≡ true → kept ≡ true → IsReply b n x (steps.kept_for f.helper g.link)) → known ≡ (low && kept)
      → Follows b (frames.to_helper_link f (Some g) (cond low (cond kept (record { helper = f.helper; answer = helper.Repeated (steps.kept_for f.helper g.link) }) (record { helper = f.helper; answer = helper.Ignored })) (record { helper = f.helper; answer = helper.Ignored })))
      (command_comes o w n x (cond known Kept Passed))
  unfolding frames.helper_answers command_comes
  old_follows true true true is e = posts_follow b f w (token.Replied n x ∷ []) _ h (is refl refl, tt)
  old_follows true false false is e = h
  old_follows false kept false is e = h
  old_follows true true false is e = absurd (cc e)
  old_follows true false true is e = absurd (cc e)
  old_follows false kept true is e = absurd (cc e)

  -- the helper keeps the replies that the token run says
  known : (nat_le n w.carried && nat_lt w.carried (n + w.window)) ≡ (nat_le g.link f.helper.carried && nat_le (f.helper.carried + 1) (g.link + length f.helper.replies))
  known =
      let hh = h.helper in
      let carried = hh.number in
      let next = number.next in
      let most = hh.most in
      let wide = h.window in
      let few = few_replies b w.carried (lines_of w.journal) f.helper.replies lines hh.kept in
      rw (link, carried) (by_low (nat_le n w.carried) (λ t. leb-true _ _ t) (elim hh.window [
        | inl e ↦ (λ l. omega (arith, l, e, wide), λ l. omega (arith, l, e, wide))
        | inr e ↦ (λ l. omega (arith, next, e), λ l. omega (arith, most, e, wide, next))
      ]))
    where
      by_low : (low : Bool) → (low ≡ true → n ≤ w.carried)
          → (w.carried < n + w.window → w.carried + 1 ≤ n + length f.helper.replies) × (w.carried + 1 ≤ n + length f.helper.replies → w.carried < n + w.window)
          → (low && nat_lt w.carried (n + w.window)) ≡ (low && nat_le (w.carried + 1) (n + length f.helper.replies))
      by_low false l k = refl
      by_low true l k = elim (cases_Bool (nat_lt w.carried (n + w.window))) [
        | inl t ↦ t ∙ sym (le-leb _ _ (k.0 (ltb-true _ _ t)))
        | inr t ↦ t ∙ sym (false_from_ne_true _ (λ u. let m = k.1 (leb-true _ _ u) in let v = ltb-false _ _ t in omega (arith, m, v)))
      ]

  abbrev old : helper.LinkTurn
  old = cond (nat_le g.link f.helper.carried) (cond (nat_le (f.helper.carried + 1) (g.link + length f.helper.replies)) (record { helper = f.helper; answer = helper.Repeated (steps.kept_for f.helper g.link) }) (record { helper = f.helper; answer = helper.Ignored })) (record { helper = f.helper; answer = helper.Ignored })

  reply_kept : g.link ≤ f.helper.carried → f.helper.carried + 1 ≤ g.link + length f.helper.replies
      → IsReply b n x (steps.kept_for f.helper g.link)
  reply_kept low high =
      let carried = h.helper.number in
      let next = number.next in
      let is : slice_get (lines_of w.journal) number.place ≡ Some x = rw ok.journal (taken_get w.commands w.carried number.place x (omega (arith, low, carried, link, next)) number.is) in
      let at : g.link + length f.helper.replies - (f.helper.carried + 1) ≡ n + length f.helper.replies - (w.carried + 1) = omega (arith, link, carried) in
      rw at (kept_at b w.carried n (lines_of w.journal) x f.helper.replies number.place lines h.helper.kept next is (omega (arith, high, carried, link)) (omega (arith, low, carried, link)))

  next_is : Follows b (frames.to_helper_link f (Some g) (steps.arrives f.helper g)) (carries_next o w x)
      → Follows b (frames.to_helper_link f (Some g) (steps.arrives f.helper g)) (command_comes o w n x Next)
  unfolding command_comes
  next_is k = k

  old_is : nat_eq n (w.carried + 1) ≡ false
      → Follows b (frames.to_helper_link f (Some g) (steps.arrives f.helper g)) (command_comes o w n x (cond (nat_le n w.carried && nat_lt w.carried (n + w.window)) Kept Passed))
  unfolding steps.arrives
  old_is t =
      let carried = h.helper.number in
      let other : nat_eq g.link (f.helper.carried + 1) ≡ false = ap (λ k. nat_eq g.link (k + 1)) carried ∙ ap (λ m. nat_eq m (w.carried + 1)) link ∙ t in
      subst (λ z. Follows b (frames.to_helper_link f (Some g) (cond z (steps.carried_with f.helper g (steps.carries_out f.helper.server g)) old)) (command_comes o w n x (cond (nat_le n w.carried && nat_lt w.carried (n + w.window)) Kept Passed))) (sym other)
      (old_follows (nat_le g.link f.helper.carried) (nat_le (f.helper.carried + 1) (g.link + length f.helper.replies)) _ (λ u v. reply_kept (leb-true _ _ u) (leb-true _ _ v)) known)

  pub ordered_follows : (n ≡ w.carried + 1 → Follows b (frames.to_helper_link f (Some g) (steps.arrives f.helper g)) (carries_next o w x))
      → Follows b (frames.to_helper_link f (Some g) (steps.arrives f.helper g)) (command_comes o w n x (arrival_of w.window w.carried n))
  unfolding arrival_of
  ordered_follows on_next = elim (cases_Bool (nat_eq n (w.carried + 1))) [
    | inl t ↦ rw t (next_is (on_next (eqb-true _ _ t)))
    | inr t ↦ rw t (old_is t)
  ]

-- ---- the command of a register

register_body : (b : Book) (c s n address : ℕ) (g : PlainFrame) → request_of b c s ≡ Some (Register address)
    → frame_of b (token.Ordered n (line c s)) ≡ Some g
    → g ≡ frame_with c s n (frame.LinkRegister address)
unfolding frame_of command_body
register_body b c s n address g q e =
    let k : Some (frame_with c s n (frame.LinkRegister address)) ≡ Some g = rw q at e in cc

next_is_carries : (o : Oracle) (w : World) (c s address : ℕ) → w.foreign c ≡ false
    → request_at (sent_of w) c s ≡ Some (Register address)
    → carries_next o w (line c s) ≡ carries w (line c s) (carried_row (line c s)) (AddBox address)
unfolding carries_next
next_is_carries o w c s address hon q = rw (hon, q) refl

pub comes_next : (o : Oracle) (w : World) (n : ℕ) (x : Line) → n ≡ w.carried + 1
    → comes o w (token.Ordered n x) ≡ carries_next o w x
unfolding comes command_comes arrival_of
comes_next o w n x e = let t : nat_eq n (w.carried + 1) ≡ true = eq-eqb _ _ e in rw t refl

-- the request was sent, and so is one of the history's
pub asked_was_sent : (b : Book) (w : World) (c s : ℕ) (r : Request)
    → sent_of w c ≡ take (length (sent_of w c)) (b.sent c) → request_at (sent_of w) c s ≡ Some r
    → request_of b c s ≡ Some r
asked_was_sent b w c s r e q =
    (get_taken (b.sent c) (length (sent_of w c)) (s - 1) r (ap (λ xs. slice_get xs (s - 1)) (sym e) ∙ q)).1

pub register_ordered : (b : Book) (o : Oracle) (f : FrameWorld) (w : World) (p : ℕ → Stage) (c s n address : ℕ) (l : Letter) → Sound b → Within b w → Within b (comes o w (token.Ordered n (line c s))) → Coherent w p
    → Claims (state w p) (token.Ordered n (line c s)) → request_at (sent_of w) c s ≡ Some (Register address)
    → Follows b f w → b.foreign c ≡ false
    → Carries b (token.Ordered n (line c s)) l
    → Follows b (frames.comes f l.to l.bytes) (comes o w (token.Ordered n (line c s)))
unfolding comes frames.comes steps.if_command
register_ordered b o f w p c s n address l sound before within ok claim sent h hon k =
    let one : IsFrameOf b l ToHelperLink c (token.Ordered n (line c s)) = rw hon at k in
    let q = asked_was_sent b w c s (Register address) (before.sent c) sent in
    let is = register_body b c s n address one.frame q one.is in
    let spelled = subst (Spelled l ToHelperLink) is one.spelled in
    let g = frame_with c s n (frame.LinkRegister address) in
    let honest : w.foreign c ≡ false = ap (λ foreign. foreign c) h.foreign ∙ hon in
    let same = next_is_carries o w c s address honest sent in
    let number = claim.1 in
    let next = number.next in
    let read = linked_spelled is_command f.helper.server.settings.width g spelled.is_frame refl refl in
    rw (spelled.at, spelled.bytes, read)
    (ordered_follows b o f w p n (line c s) g (sound.limits.3.0) ok number h refl (λ e.
    let there : slice_get w.commands w.carried ≡ Some (line c s) = subst (λ i. slice_get w.commands i ≡ Some (line c s)) (omega (arith, e, next)) number.is in
    let after : Within b (carries w (line c s) (carried_row (line c s)) (AddBox address)) = subst (Within b) (comes_next o w n (line c s) e ∙ same) within in
    subst (λ m. Follows b (frames.to_helper_link f (Some (frame_with c s m (frame.LinkRegister address))) (steps.arrives f.helper (frame_with c s m (frame.LinkRegister address)))) (carries_next o w (line c s))) (sym e)
    (rw same (next_follows b f w p c s address sound after ok h hon one.lane there q))))
