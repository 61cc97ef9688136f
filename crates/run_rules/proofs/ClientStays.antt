-- Replies that a client doesn't move on, bytes from outside, and the challenge of a write, in both runs.
use Rattle.std.proofs.Common.{◌≡◌, ℕ, zero, suc, cond, nat_eq, true, false, Bool, List, [], ◌∷◌, Option, Some, None, Ok, refl, sym, ap, ◌∙◌, subst, inl, inr, arith}
use Rattle.std.proofs.lemmas.Bool.{ne_eqb}
use Rattle.express_words.specs.declared.refusal.Refusal.{Refusal}
use Rattle.express_words.specs.declared.refusal.Refusal.TheVariants as refusal
use Rattle.frame_rules.specs.Frames as frame
use Rattle.frame_rules.specs.Frames.{PlainFrame, PlainBody}
use Rattle.frame_rules.specs.Spelling.{spelling}
use Rattle.mailbox_rules.specs.Requests.{Request, Register, Write, Read, Retire, Begins, opening_of}
use Rattle.token_rules.specs.Tokens as token
use Rattle.token_rules.specs.Tokens.{World, Oracle}
use Rattle.token_rules.specs.Rows.{HeardChallenge, client_does}
use Rattle.token_rules.specs.Run.{comes, sends}
use Rattle.token_rules.specs.Stages.{Stage}
use Rattle.token_rules.specs.Invariant.{Claims, state}
use Rattle.frame_rules.specs.Whole.{whole}
use Rattle.step_rules.specs.Client.{Client, Current, Step, ProvesToHelper, Turn}
use Rattle.step_rules.specs.ClientReplies.{on_reply, if_whole, if_current, by_refusal, of_no_frame, is_mine, ignores, later, on_refusal, on_deposit, on_submission, on_challenge, on_helper_proof, on_leader_proof}
use Rattle.step_tokens.specs.ClientSteps.{IsLater}
use Rattle.run_rules.specs.Letters.{Letter, ToClient, FrameWorld}
use Rattle.run_rules.specs.Run as frames
use Rattle.run_rules.specs.Book.{Book, request_of}
use Rattle.run_rules.specs.Values.{ckey_at}
use Rattle.run_rules.specs.Frames.{frame_with, frame_of}
use Rattle.run_rules.specs.Follows.{Spelled, Carries, CurrentIs, ClientAt, OfNoFrame, IsInjected, opening_in, Follows}
use Rattle.run_rules.proofs.Basics.{whole_spelled}
use Rattle.run_rules.proofs.LeaderClients.{posts_follow}
use Rattle.run_rules.proofs.ClientHears.{client_at, client_stays, arrives, hears_at, now_is, Hears}

-- ---- a client that says it will come again, or ignores what came

pub record StaysSo (k : Client) (turn : Turn) : Type 0 where
  pub same : (f : FrameWorld) (c : ℕ) → f.clients c ≡ k
      → frames.to_client f c turn ≡ frames.with_client f c (f.clients c)

ignored : (k : Client) → StaysSo k (ignores k)
unfolding frames.goes_on_after
ignored k = record { same = λ f c e. ap (λ x. frames.with_client f c x) (sym e) }

told_later : (k : Client) (r : Refusal) → StaysSo k (later k r)
unfolding frames.goes_on_after
told_later k r = record { same = λ f c e. ap (λ x. frames.with_client f c x) (sym e) }

refusal_later : (k : Client) (step : Step) (r : Refusal) → IsLater r → StaysSo k (on_refusal k step r)
unfolding on_refusal
refusal_later k step (refusal.Stale n) h = told_later k (refusal.Stale n)
refusal_later k step (refusal.Phase n) h = told_later k (refusal.Phase n)
refusal_later k step (refusal.Again n) h = told_later k (refusal.Again n)
refusal_later k step r h = absurd h

later_known : (r : Refusal) → IsLater r → of_no_frame r ≡ false
later_known (refusal.Stale n) h = refl
later_known (refusal.Phase n) h = refl
later_known (refusal.Again n) h = refl
later_known r h = absurd h

either : (k : Client) (t : Bool) (x y : Turn) → StaysSo k x → StaysSo k y → StaysSo k (cond t x y)
either k true x y h i = h
either k false x y h i = i

read_turn : (k : Client) (g : PlainFrame) (bytes : List ℕ) (now : Option Current) → k.current ≡ now
    → whole bytes ≡ Ok g → on_reply k bytes ≡ if_current k g now
unfolding if_whole
read_turn k g bytes now is e = ap (if_whole k) e ∙ ap (if_current k g) is

later_now : (k : Client) (c s : ℕ) (r : Refusal) (now : Option Current) → IsLater r
    → StaysSo k (if_current k (frame_with c s 0 (frame.Refused r)) now)
unfolding if_current by_refusal
later_now k c s r None h = ignored k
later_now k c s r (Some now) h =
    let known = later_known r h in rw known (either k (is_mine k (frame_with c s 0 (frame.Refused r))) _ _ (refusal_later k now.step r h) (ignored k))

later_turn : (k : Client) (c s : ℕ) (r : Refusal) (bytes : List ℕ)
    → whole bytes ≡ Ok (frame_with c s 0 (frame.Refused r)) → IsLater r → StaysSo k (on_reply k bytes)
later_turn k c s r bytes e h =
    subst (StaysSo k) (sym (read_turn k (frame_with c s 0 (frame.Refused r)) bytes k.current refl e)) (later_now k c s r k.current h)

pub later_comes : (b : Book) (o : Oracle) (f : FrameWorld) (w : World) (c s : ℕ) (l : Letter) → Follows b f w
    → Carries b (token.Later c s) l
    → Follows b (frames.comes f l.to l.bytes) (comes o w (token.Later c s))
unfolding comes frames.comes
later_comes b o f w c s l h k =
    let turn = later_turn (f.clients c) c s k.refusal _ (whole_spelled _ k.spelled.is_frame) k.later in
    rw (k.spelled.at, k.spelled.bytes, turn.same f c refl) (client_stays b f w c h)

-- ---- what servers answer to foreign lanes, and to bytes that are no frame

of_body : (k : Client) (g : PlainFrame) (body : PlainBody) → OfNoFrame body → (now : Option Current) → StaysSo k (if_current k (record g { body = body }) now)
unfolding if_current by_refusal
of_body k g body h None = ignored k
of_body k g (frame.Refused r) h (Some now) = rw h (told_later k r)
of_body k g body h (Some now) = absurd h

no_frame_turn : (k : Client) (g : PlainFrame) (bytes : List ℕ) (now : Option Current) → k.current ≡ now
    → whole bytes ≡ Ok g → OfNoFrame g.body → StaysSo k (on_reply k bytes)
unfolding if_whole
no_frame_turn k g bytes now is e h = rw e (of_body k g g.body h k.current)

none_now : (k : Client) (g : PlainFrame) → StaysSo k (if_current k g None)
unfolding if_current
none_now k g = ignored k

foreign_turn : (k : Client) (g : PlainFrame) (bytes : List ℕ) → k.current ≡ None → whole bytes ≡ Ok g
    → StaysSo k (on_reply k bytes)
foreign_turn k g bytes is e = subst (StaysSo k) (sym (read_turn k g bytes None is e)) (none_now k g)

pub foreign_comes : (b : Book) (o : Oracle) (f : FrameWorld) (w : World) (c : ℕ) (l : Letter) → Follows b f w
    → Carries b (token.Foreign c) l
    → Follows b (frames.comes f l.to l.bytes) (comes o w (token.Foreign c))
unfolding comes frames.comes
foreign_comes b o f w c l h k =
    let read = whole_spelled k.frame k.spelled.is_frame in
    let turn : StaysSo (f.clients c) (on_reply (f.clients c) (spelling k.frame)) = elim k.why [
      | inl t ↦ foreign_turn (f.clients c) k.frame (spelling k.frame) (subst (λ t. ClientAt b c t (f.clients c) (w.lanes c).step (w.lanes c).serial) t (h.clients c)).0 read
      | inr n ↦ no_frame_turn (f.clients c) k.frame (spelling k.frame) (f.clients c).current refl read n
    ] in
    rw (k.spelled.at, k.spelled.bytes, turn.same f c refl) (client_stays b f w c h)

-- ---- bytes from outside

pub injected_follows : (b : Book) (f : FrameWorld) (w : World) (to_leader : Bool) (lane : Option ℕ) (bytes : List ℕ) → Follows b f w → IsInjected bytes lane
    → Follows b (frames.happens f (frames.Inject to_leader bytes)) (sends w (token.Injected to_leader lane))
unfolding frames.happens
injected_follows b f w true lane bytes h k =
    posts_follow b f w (token.Injected true lane ∷ []) _ h ((refl, k), tt)
injected_follows b f w false lane bytes h k =
    posts_follow b f w (token.Injected false lane ∷ []) _ h ((refl, k), tt)

-- ---- the challenge

writes_alone : (r : Request) → opening_of r ≡ Begins
    → (target : ℕ) × ((message : List ℕ) × (r ≡ Write target message))
writes_alone (Write target message) e = (target, (message, refl))
writes_alone (Register address) e = absurd (cc e)
writes_alone (Read own) e = absurd (cc e)
writes_alone (Retire own) e = absurd (cc e)

challenged : (b : Book) (c serial m : ℕ) (k : Client) (now : Current)
    → CurrentIs b c (suc m) serial (Some now) → opening_in (request_of b c serial) ≡ Begins
    → Hears b c (suc m) serial k now (frame.Challenge (ckey_at b c serial)) (client_does HeardChallenge (suc m))
unfolding client_does on_deposit on_submission on_challenge on_helper_proof on_leader_proof
challenged b c serial zero k now h e = rw (now_is _ _ h.2) refl
challenged b c serial (suc zero) k now h e =
    let r = writes_alone h.0 (ap opening_in (sym h.1) ∙ e) in
    let is = now_is _ _ h.2 in
    rw (is, r.1.1) (record { step = ProvesToHelper (ckey_at b c serial); is = refl; current = (Write r.0 r.1.0, h.1 ∙ ap Some r.1.1, refl) })
challenged b c serial (suc (suc zero)) k now h e = rw (now_is _ _ h.2) refl
challenged b c serial (suc (suc (suc m))) k now h e =
    let t : nat_eq (suc (suc (suc (suc m)))) 2 ≡ false = ne_eqb _ _ (λ e. omega (arith, e)) in rw (now_is _ _ h.2, t) refl

pub challenge_comes : (b : Book) (o : Oracle) (f : FrameWorld) (w : World) (p : ℕ → Stage) (c s : ℕ) (l : Letter) → Claims (state w p) (token.Challenge c s)
    → (s ≡ (w.lanes c).serial → (w.lanes c).opening ≡ opening_in (request_of b c (w.lanes c).serial))
    → Follows b f w → b.foreign c ≡ false → Carries b (token.Challenge c s) l
    → Follows b (frames.comes f l.to l.bytes) (comes o w (token.Challenge c s))
unfolding comes frame_of client_does
challenge_comes b o f w p c s l claim opens h hon k =
    let g : k.frame ≡ frame_with c s 0 (frame.Challenge (ckey_at b c s)) = cc k.is in
    let spelled = subst (Spelled l (ToClient c)) g k.spelled in
    arrives b f l c _ _ spelled
    (hears_at b f w c s (w.lanes c).step (frame.Challenge (ckey_at b c s)) HeardChallenge _ h hon (whole_spelled _ spelled.is_frame) refl refl refl
    (λ m client now is same. at_serial m client now is same) (client_at b f w c h hon))
  where
    at_serial : (m : ℕ) (client : Client) (now : Current)
        → CurrentIs b c (suc m) (w.lanes c).serial (Some now) → s ≡ (w.lanes c).serial
        → Hears b c (suc m) (w.lanes c).serial client now (frame.Challenge (ckey_at b c s)) (client_does HeardChallenge (suc m))
    at_serial m client now is same =
        subst (λ n. Hears b c (suc m) (w.lanes c).serial client now (frame.Challenge (ckey_at b c n)) (client_does HeardChallenge (suc m))) (sym same)
        (challenged b c (w.lanes c).serial m client now is (sym (opens same) ∙ claim.1.1 same))
