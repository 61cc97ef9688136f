-- The answer that ends a request comes to its client, in both runs.
use Rattle.std.proofs.Common.{◌≡◌, ◌∙◌, ℕ, zero, suc, ◌<◌, ◌≤◌, ◌^◌, ◌+◌, cond, nat_eq, true, false, Bool, List, length, Ok, Option, Some, None, refl, sym, ap, subst, arith, length-take}
use Rattle.std.proofs.lemmas.Bool.{eq-eqb, eqb-true}
use Rattle.express_words.specs.declared.refusal.Refusal.{Refusal}
use Rattle.frame_rules.specs.Frames.{PlainBody}
use Rattle.frame_rules.specs.Whole.{whole}
use Rattle.token_rules.specs.Tokens as token
use Rattle.token_rules.specs.Tokens.{World, Oracle}
use Rattle.token_rules.specs.Rows.{ClientDoes, Stays, GoesOn, Finishes, HeardAnswer, client_does}
use Rattle.token_rules.specs.Run.{client_hears, client_moves, comes, notes, sent_of}
use Rattle.step_rules.specs.Client as client
use Rattle.step_rules.specs.Client.{Client, Current, Turn, Finished}
use Rattle.step_rules.specs.ClientReplies.{on_reply, if_whole, if_current, by_refusal, by_step, refusal_in, of_no_frame, ignores, on_refusal}
use Rattle.run_rules.specs.Letters.{Letter, ToClient, FrameWorld, Ended}
use Rattle.run_rules.specs.Run as frames
use Rattle.run_rules.specs.Book.{Book}
use Rattle.run_rules.specs.Frames.{frame_with, frame_of, answer_at}
use Rattle.run_rules.specs.Follows.{Spelled, Carries, CurrentIs, serial_at, ClientFollows, Within, TellsSame, says, message_told, Follows}
use Rattle.run_rules.specs.Known.{Known}
use Rattle.run_rules.proofs.Basics.{whole_spelled, put_here}
use Rattle.run_rules.proofs.ClientHears.{asked_at, client_at, client_stays, idle_turn}
use Rattle.run_rules.proofs.GoesOn.{notes_follow, goes_on_follows}

-- ---- what the client makes of an answer to its current request

abbrev pub answer_in : Client → Current → PlainBody → Option Refusal → Turn
answer_in k now body None = by_step k now.request now.step body
answer_in k now body (Some r) = on_refusal k now.step r

abbrev pub answer_to : Client → Current → PlainBody → Turn
answer_to k now body = answer_in k now body (refusal_in body)

-- no refusal of bytes that are no frame
abbrev pub IsPlain : Option Refusal → Type 0
IsPlain None = Unit {0}
IsPlain (Some r) = of_no_frame r ≡ false

answer_turn : (k : Client) (c s : ℕ) (now : Current) (body : PlainBody) (bytes : List ℕ) → IsPlain (refusal_in body)
    → whole bytes ≡ Ok (frame_with c s 0 body) → k.lane ≡ c → k.current ≡ Some now
    → on_reply k bytes ≡ cond (nat_eq s k.serial) (answer_to k now body) (ignores k)
unfolding if_whole if_current by_refusal
answer_turn k c s now body bytes plain e mine is =
    ap (if_whole k) e ∙ ap (if_current k (frame_with c s 0 body)) is ∙ by_found (refusal_in body) plain
  where
    here : nat_eq c k.lane ≡ true
    here = eq-eqb c k.lane (sym mine)

    by_found : (found : Option Refusal) → IsPlain found
        → by_refusal k now (frame_with c s 0 body) found ≡ cond (nat_eq s k.serial) (answer_in k now body found) (ignores k)
    by_found None plain = rw here refl
    by_found (Some r) plain = rw (plain, here) refl

-- ---- the request ends where the token run says so

-- the client that is left, with all boxes that its lane got, and what is told
pub record EndsSo (b : Book) (c s : ℕ) (k : Client) (got : List ℕ) (turn : Turn) : Type 0 where
  pub left : Client
  pub outcome : client.Outcome
  pub is : turn ≡ record { client = left; progress = Finished outcome }
  pub follows : ClientFollows b c left 0 s
  pub all : length left.owned ≡ length got
  pub tells : says (answer_at b c s) (message_told b c s) ≡ Some outcome

abbrev pub Answers : Book → ℕ → ℕ → Client → List ℕ → Turn → ClientDoes → Type 0
Answers b c s k got turn Stays = turn ≡ ignores k
Answers b c s k got turn Finishes = EndsSo b c s k got turn
Answers b c s k got turn GoesOn = ⊥

-- the serials of a client that the run knows aren't spent
pub serials_few : (b : Book) (v w : World) (c : ℕ) → Known b v w → w.foreign c ≡ false → (w.lanes c).serial + 1 < 2 ^ 32
serials_few b v w c k hon =
    let sent = k.lawful.sent.serials c hon in
    let few = ap length (k.within.sent c) ∙ length-take (length (sent_of w c)) (b.sent c) in
    let room = k.sound.serials c in
    omega (arith, sent, few, room)

module _ (b : Book) (f : FrameWorld) (v w : World) (c s : ℕ) (h : Follows b f w) (hon : b.foreign c ≡ false)
    (known : Known b v w) (after : Known b v (client_hears w c s HeardAnswer)) where
  honest : w.foreign c ≡ false
  honest = ap (λ foreign. foreign c) h.foreign ∙ hon

  stays : Follows b (frames.to_client f c (ignores (f.clients c))) w
  unfolding frames.goes_on_after
  stays = client_stays b f w c h

  -- the request ends, and the client goes on
  ended : (turn : Turn) → 0 < (w.lanes c).step → s ≡ (w.lanes c).serial → EndsSo b c s (f.clients c) (w.table.got c) turn
      → Within b (client_moves w c s Finishes)
      → Follows b (frames.to_client f c turn) (client_moves w c s Finishes)
  unfolding frames.goes_on_after client_moves
  ended turn step same e there =
      let told = token.Answered s (w.lanes c).opening in
      let x = notes w c told in
      let low : c < b.settings.lanes = (client_at b f w c h hon).there step in
      let left : ClientFollows b c e.left 0 (w.lanes c).serial = subst (ClientFollows b c e.left 0) same e.follows in
      let tells : TellsSame b c told (Ended e.outcome) = e.tells in
      let noted = notes_follow b f w c e.left told (Ended e.outcome) h (rw hon left) tells in
      let lane = put_here w.lanes c (record (w.lanes c) { step = 0 }) in
      let mine = put_here w.requests c (record (w.requests c) { told = (w.requests c).told + 1 }) in
      let serial : (x.lanes c).serial ≡ (w.lanes c).serial = ap (λ l. l.serial) lane in
      let sent = known.lawful.sent.serials c honest in
      let boxes : length (w.table.got c) ≤ b.settings.boxes = let few = known.lawful.few c in let limit = h.limit in omega (arith, few, limit) in
      rw (e.is, h.waiting c)
      (goes_on_follows b (frames.notes (frames.with_client f c e.left) c (Ended e.outcome)) x c (w.requests c).waiting known.sound noted hon low (ap (λ l. l.step) lane)
      (serial ∙ sent ∙ ap length (sym (ap (λ r. r.sent) mine)))
      (record { serials = rw serial (serials_few b v w c known honest); boxes = boxes; all = ap (λ k. length k.owned) (put_here f.clients c e.left) ∙ e.all }) there)

  -- what the client does at its step is what the token run does
  moves : (n : ℕ) (turn : Turn) (does : ClientDoes) → (w.lanes c).step ≡ suc n → s ≡ (w.lanes c).serial
      → Answers b c s (f.clients c) (w.table.got c) turn does → Within b (client_moves w c s does)
      → Follows b (frames.to_client f c turn) (client_moves w c s does)
  unfolding client_moves
  moves n turn Stays at same a there = rw a stays
  moves n turn Finishes at same a there = ended turn (omega (arith, at)) same a there
  moves n turn GoesOn at same a there = absurd a

  pub at_step : (n : ℕ) (body : PlainBody) (bytes : List ℕ) → (w.lanes c).step ≡ n → IsPlain (refusal_in body)
      → whole bytes ≡ Ok (frame_with c s 0 body)
      → ((m : ℕ) (now : Current) → (w.lanes c).step ≡ suc m → CurrentIs b c (suc m) (w.lanes c).serial (Some now) → (f.clients c).current ≡ Some now → s ≡ (w.lanes c).serial
      → Answers b c s (f.clients c) (w.table.got c) (answer_to (f.clients c) now body) (client_does HeardAnswer (suc m)))
      → Within b (client_hears w c s HeardAnswer)
      → Follows b (frames.to_client f c (on_reply (f.clients c) bytes)) (client_hears w c s HeardAnswer)
  unfolding client_hears client_does client_moves
  at_step zero body bytes at plain read answers there =
      let k = client_at b f w c h hon in
      let now : (f.clients c).current ≡ None = subst (λ n. CurrentIs b c n (w.lanes c).serial (f.clients c).current) at k.current in
      rw (idle_turn (f.clients c) c s body bytes read now, at) (either (nat_eq s (w.lanes c).serial))
    where
      either : (t : Bool) → Follows b (frames.to_client f c (ignores (f.clients c))) (cond t (client_moves w c s Stays) w)
      either true = stays
      either false = stays
  at_step (suc n) body bytes at plain read answers there =
      let k = client_at b f w c h hon in
      let a = asked_at b c n (w.lanes c).serial (f.clients c) (subst (λ n. CurrentIs b c n (w.lanes c).serial (f.clients c).current) at k.current) in
      let number : (f.clients c).serial ≡ (w.lanes c).serial = subst (λ n. (f.clients c).serial ≡ serial_at n (w.lanes c).serial) at k.number in
      let turn = answer_turn (f.clients c) c s a.now body bytes plain read k.mine a.is ∙ ap (λ n. cond (nat_eq s n) (answer_to (f.clients c) a.now body) (ignores (f.clients c))) number in
      let does : client_does HeardAnswer (w.lanes c).step ≡ client_does HeardAnswer (suc n) = ap (client_does HeardAnswer) at in
      rw (turn, does) (either a.now (nat_eq s (w.lanes c).serial) (λ t. eqb-true _ _ t) (answers n a.now at a.step a.is) (subst (λ d. Within b (cond (nat_eq s (w.lanes c).serial) (client_moves w c s d) w)) does there))
    where
      either : (now : Current) (t : Bool) → (t ≡ true → s ≡ (w.lanes c).serial)
          → (s ≡ (w.lanes c).serial → Answers b c s (f.clients c) (w.table.got c) (answer_to (f.clients c) now body) (client_does HeardAnswer (suc n)))
          → Within b (cond t (client_moves w c s (client_does HeardAnswer (suc n))) w)
          → Follows b (frames.to_client f c (cond t (answer_to (f.clients c) now body) (ignores (f.clients c)))) (cond t (client_moves w c s (client_does HeardAnswer (suc n))) w)
      either now false same a there = stays
      either now true same a there = moves n _ (client_does HeardAnswer (suc n)) at (same refl) (a (same refl)) there

-- the answer comes: what is left to show is what the client makes of it at each step of that request
pub answer_follows : (b : Book) (o : Oracle) (f : FrameWorld) (v w : World) (c s : ℕ) (l : Letter) → Known b v w
    → Known b v (comes o w (token.Answer c s)) → Follows b f w → b.foreign c ≡ false → Carries b (token.Answer c s) l
    → IsPlain (refusal_in (answer_at b c s))
    → ((m : ℕ) (now : Current) → (w.lanes c).step ≡ suc m → CurrentIs b c (suc m) (w.lanes c).serial (Some now) → (f.clients c).current ≡ Some now → s ≡ (w.lanes c).serial
    → Answers b c s (f.clients c) (w.table.got c) (answer_to (f.clients c) now (answer_at b c s)) (client_does HeardAnswer (suc m)))
    → Follows b (frames.comes f l.to l.bytes) (comes o w (token.Answer c s))
unfolding comes frame_of frames.comes
answer_follows b o f v w c s l known after h hon k plain answers =
    let g : k.frame ≡ frame_with c s 0 (answer_at b c s) = cc k.is in
    let spelled = subst (Spelled l (ToClient c)) g k.spelled in
    rw (spelled.at, spelled.bytes)
    (at_step b f v w c s h hon known after (w.lanes c).step (answer_at b c s) _ refl plain (whole_spelled _ spelled.is_frame) answers after.within)
