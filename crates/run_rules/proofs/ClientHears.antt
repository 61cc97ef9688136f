-- Replies that take a client on to its next step, in both runs.
use Rattle.std.proofs.Common.{◌≡◌, ℕ, zero, suc, ◌+◌, cond, nat_eq, true, false, List, Ok, Option, Some, None, slice_get, refl, sym, ap, ◌∙◌, subst, arith, Bool, add-one}
use Rattle.std.proofs.lemmas.Bool.{eqb-true, eq-eqb, ne_eqb}
use Rattle.frame_rules.specs.Frames as frame
use Rattle.frame_rules.specs.Frames.{PlainFrame, PlainBody}
use Rattle.frame_rules.specs.Spelling.{spelling}
use Rattle.mailbox_rules.specs.Requests.{Request, Register, Write, Read, Retire}
use Rattle.token_rules.specs.Tokens as token
use Rattle.token_rules.specs.Tokens.{World, Lane, put, Oracle}
use Rattle.token_rules.specs.Rows.{ClientHears, HeardHeldDeposit, HeardHeldProof, ClientDoes, Stays, GoesOn, Finishes, client_does}
use Rattle.token_rules.specs.Run.{client_hears, client_moves, with_lane, comes}
use Rattle.frame_rules.specs.Whole.{whole}
use Rattle.step_rules.specs.Client.{Client, Owned, Current, Step, Submits, ProvesToLeader}
use Rattle.step_rules.specs.ClientReplies.{on_reply, if_whole, if_current, by_refusal, by_step, refusal_in, ignores, goes_on, on_deposit, on_submission, on_registered, on_challenge, on_message, on_helper_proof, on_leader_proof}
use Rattle.run_rules.specs.Letters.{Letter, ToClient, FrameWorld}
use Rattle.run_rules.specs.Run as frames
use Rattle.run_rules.specs.Book.{Book}
use Rattle.run_rules.specs.Values.{ckey_at}
use Rattle.run_rules.specs.Frames.{frame_with, frame_of}
use Rattle.run_rules.specs.Follows.{Spelled, Carries, CurrentIs, ClientFollows, ClientAt, Follows}
use Rattle.run_rules.proofs.Basics.{whole_spelled, put_here, put_other, put_part, put_both}

-- ---- one client changed

-- its step may change too
pub client_follows : (b : Book) (f : FrameWorld) (w : World) (c n : ℕ) (k : Client)
    → Follows b f w → ClientAt b c (b.foreign c) k n (w.lanes c).serial
    → Follows b (frames.with_client f c k) (with_lane w c (record (w.lanes c) { step = n }))
client_follows b f w c n k h hk =
    let lane : Lane = record (w.lanes c) { step = n } in
    let hh = h.helper in
    let la = h.leader in
    record {
      limit = h.limit;
      width = h.width;
      window = h.window;
      foreign = h.foreign;
      helper = record {
        settings = hh.settings;
        seed = hh.seed;
        count = hh.count;
        rows = λ d there. rw (put_part (λ l. l.helper) w.lanes c lane refl d) (hh.rows d there);
        boxes = hh.boxes;
        draws = hh.draws;
        number = hh.number;
        kept = hh.kept;
        window = hh.window;
        most = hh.most;
        begun = hh.begun;
      };
      leader = record {
        settings = la.settings;
        seed = la.seed;
        count = la.count;
        rows = λ d there. rw (put_part (λ l. l.leader) w.lanes c lane refl d) (la.rows d there);
        boxes = la.boxes;
        draws = la.draws;
        next = la.next;
        outstanding = la.outstanding;
        issued = la.issued;
        foreign = la.foreign;
        begun = la.begun;
        awaited = la.awaited;
      };
      clients = put_both (λ d x. ClientAt b d (b.foreign d) x (put w.lanes c lane d).step (put w.lanes c lane d).serial) f.clients c k
          (rw (put_here w.lanes c lane) hk)
          (λ d n. rw (put_other w.lanes c lane d n) (h.clients d));
      waiting = h.waiting;
      told = h.told;
      pool = h.pool;
      journal = h.journal;
      outcomes = h.outcomes;
    }

-- a client that stays
pub client_stays : (b : Book) (f : FrameWorld) (w : World) (c : ℕ) → Follows b f w
    → Follows b (frames.with_client f c (f.clients c)) w
client_stays b f w c h = record {
  limit = h.limit;
  width = h.width;
  window = h.window;
  foreign = h.foreign;
  helper = h.helper;
  leader = h.leader;
  clients = put_both (λ d x. ClientAt b d (b.foreign d) x (w.lanes d).step (w.lanes d).serial) f.clients c (f.clients c) (h.clients c) (λ d n. h.clients d);
  waiting = h.waiting;
  told = h.told;
  pool = h.pool;
  journal = h.journal;
  outcomes = h.outcomes;
}

-- ---- a reply that is no refusal

-- the reply is the client's own where it has the current serial
pub reply_turn : (k : Client) (c s : ℕ) (body : PlainBody) (bytes : List ℕ) (now : Current)
    → whole bytes ≡ Ok (frame_with c s 0 body) → k.lane ≡ c
    → k.current ≡ Some now → refusal_in body ≡ None
    → on_reply k bytes ≡ cond (nat_eq s k.serial) (by_step k now.request now.step body) (ignores k)
unfolding if_whole if_current by_refusal
reply_turn k c s body bytes now e mine is plain =
    let here : nat_eq c k.lane ≡ true = eq-eqb c k.lane (sym mine) in
    rw (e, is, plain, here) refl

pub idle_turn : (k : Client) (c s : ℕ) (body : PlainBody) (bytes : List ℕ)
    → whole bytes ≡ Ok (frame_with c s 0 body) → k.current ≡ None → on_reply k bytes ≡ ignores k
unfolding if_whole if_current
idle_turn k c s body bytes e is = rw (e, is) refl

-- what the client does at its step is what the token run does
pub record GoesTo (b : Book) (c n serial : ℕ) (k : Client) (now : Current) (body : PlainBody) : Type 0 where
  pub step : Step
  pub is : by_step k now.request now.step body ≡ goes_on k now.request step
  pub current : CurrentIs b c (suc n) serial (Some (record { request = now.request; step = step }))

abbrev pub Hears : Book → ℕ → ℕ → ℕ → Client → Current → PlainBody → ClientDoes → Type 0
Hears b c n serial k now body Stays = by_step k now.request now.step body ≡ ignores k
Hears b c n serial k now body GoesOn = GoesTo b c n serial k now body
Hears b c n serial k now body Finishes = ⊥

-- a client with a request, at step n
pub record Asked (b : Book) (c n serial : ℕ) (k : Client) : Type 0 where
  pub now : Current
  pub is : k.current ≡ Some now
  pub step : CurrentIs b c n serial (Some now)

pub asked_at : (b : Book) (c n serial : ℕ) (k : Client) → CurrentIs b c (suc n) serial k.current
    → Asked b c (suc n) serial k
asked_at b c zero serial k h = record { now = _; is = h.2; step = (h.0, h.1, refl) }
asked_at b c (suc zero) serial k h = record { now = _; is = h.2; step = (h.0, h.1, refl) }
asked_at b c (suc (suc zero)) serial k h = record { now = _; is = h.2; step = (h.0, h.1, refl) }
asked_at b c (suc (suc (suc n))) serial k h = record { now = _; is = h.2; step = (h.0, h.1, refl) }

on_to : (b : Book) (c n serial : ℕ) (k : Client) (current : Option Current)
    → ClientFollows b c k (suc n) serial → CurrentIs b c (suc (suc n)) serial current
    → ClientFollows b c (record k { current = current }) (suc (suc n)) serial
on_to b c n serial k current h is = record {
  mine = h.mine;
  seed = h.seed;
  width = h.width;
  capacity = h.capacity;
  there = λ pos. h.there (omega arith);
  number = h.number;
  current = is;
  owned = h.owned;
}

moves_on : (b : Book) (f : FrameWorld) (w : World) (c s n : ℕ) (now : Current) (body : PlainBody) (does : ClientDoes) → Follows b f w → b.foreign c ≡ false → (w.lanes c).step ≡ suc n
    → ClientFollows b c (f.clients c) (suc n) (w.lanes c).serial
    → Hears b c (suc n) (w.lanes c).serial (f.clients c) now body does
    → Follows b (frames.to_client f c (by_step (f.clients c) now.request now.step body)) (client_moves w c s does)
unfolding client_moves frames.goes_on_after
moves_on b f w c s n now body Stays h hon e k m = rw m (client_stays b f w c h)
moves_on b f w c s n now body GoesOn h hon e k m =
    let follows = on_to b c n (w.lanes c).serial (f.clients c) _ k m.current in
    let at : (w.lanes c).step + 1 ≡ suc (suc n) = add-one _ ∙ ap suc e in
    rw (m.is, at) (client_follows b f w c (suc (suc n)) _ h (rw hon follows))
moves_on b f w c s n now body Finishes h hon e k m = absurd m

pub hears_at : (b : Book) (f : FrameWorld) (w : World) (c s n : ℕ) (body : PlainBody) (heard : ClientHears) (bytes : List ℕ) → Follows b f w → b.foreign c ≡ false
    → whole bytes ≡ Ok (frame_with c s 0 body) → refusal_in body ≡ None → (w.lanes c).step ≡ n
    → client_does heard 0 ≡ Stays
    → ((m : ℕ) (k : Client) (now : Current) → CurrentIs b c (suc m) (w.lanes c).serial (Some now) → s ≡ (w.lanes c).serial → Hears b c (suc m) (w.lanes c).serial k now body (client_does heard (suc m)))
    → ClientFollows b c (f.clients c) n (w.lanes c).serial
    → Follows b (frames.comes f (ToClient c) bytes) (client_hears w c s heard)
unfolding frames.comes client_hears client_moves frames.goes_on_after
hears_at b f w c s zero body heard bytes h hon e plain at idle steps k =
    let t = idle_turn (f.clients c) c s body bytes e k.current in
    rw t (by_serial (nat_eq s (w.lanes c).serial))
  where
    does : client_does heard (w.lanes c).step ≡ Stays
    does = ap (client_does heard) at ∙ idle

    stays : Follows b (frames.to_client f c (ignores (f.clients c))) w
    stays = client_stays b f w c h

    by_serial : (t : Bool)
        → Follows b (frames.to_client f c (ignores (f.clients c))) (cond t (client_moves w c s (client_does heard (w.lanes c).step)) w)
    by_serial true = rw does stays
    by_serial false = stays
hears_at b f w c s (suc n) body heard bytes h hon e plain at idle steps k =
    let a = asked_at b c n (w.lanes c).serial (f.clients c) k.current in
    let t = reply_turn (f.clients c) c s body bytes a.now e k.mine a.is plain in
    let turn = t ∙ ap (λ n. cond (nat_eq s n) (by_step (f.clients c) a.now.request a.now.step body) (ignores (f.clients c))) k.number in
    rw (turn, at) (by_serial (nat_eq s (w.lanes c).serial) a.now a.step (λ u. eqb-true s _ u))
  where
    by_serial : (t : Bool) (now : Current) → CurrentIs b c (suc n) (w.lanes c).serial (Some now)
        → (t ≡ true → s ≡ (w.lanes c).serial)
        → Follows b (frames.to_client f c (cond t (by_step (f.clients c) now.request now.step body) (ignores (f.clients c))))
        (cond t (client_moves w c s (client_does heard (suc n))) w)
    by_serial true now is same = moves_on b f w c s n now body (client_does heard (suc n)) h hon at k (steps n (f.clients c) now is (same refl))
    by_serial false now is same = client_stays b f w c h

-- ---- the deposit is held, the write is challenged, the proof is held

no_message : (k : Client) (own : Option Owned) (proof : Bool)
    → on_message k own (frame.Held proof) ≡ ignores k
unfolding on_message
no_message k None proof = refl
no_message k (Some own) proof = refl

held_submission : (k : Client) (r : Request) (proof : Bool) → on_submission k r (frame.Held proof) ≡ ignores k
unfolding on_submission on_registered on_challenge
held_submission k (Register address) proof = refl
held_submission k (Write target message) proof = refl
held_submission k (Read own) proof = no_message k (slice_get k.owned own) proof
held_submission k (Retire own) proof = no_message k (slice_get k.owned own) proof

-- the client's step is the one that the relation tells
pub now_is : (a x : Current) → Some a ≡ Some x → a ≡ x
now_is a x e = cc

deposit_held : (b : Book) (c serial m : ℕ) (k : Client) (now : Current)
    → CurrentIs b c (suc m) serial (Some now)
    → Hears b c (suc m) serial k now (frame.Held false) (client_does HeardHeldDeposit (suc m))
unfolding client_does on_deposit on_helper_proof on_leader_proof
deposit_held b c serial zero k now h =
    rw (now_is _ _ h.2) (record { step = Submits; is = refl; current = (h.0, h.1, refl) })
deposit_held b c serial (suc zero) k now h = rw (now_is _ _ h.2) (held_submission k h.0 false)
deposit_held b c serial (suc (suc zero)) k now h = rw (now_is _ _ h.2) refl
deposit_held b c serial (suc (suc (suc m))) k now h =
    let t : nat_eq (suc (suc (suc (suc m)))) 1 ≡ false = ne_eqb _ _ (λ e. omega (arith, e)) in rw (now_is _ _ h.2, t) refl

proof_held : (b : Book) (c serial m : ℕ) (k : Client) (now : Current)
    → CurrentIs b c (suc m) serial (Some now)
    → Hears b c (suc m) serial k now (frame.Held true) (client_does HeardHeldProof (suc m))
unfolding client_does on_deposit on_helper_proof on_leader_proof
proof_held b c serial zero k now h = rw (now_is _ _ h.2) refl
proof_held b c serial (suc zero) k now h = rw (now_is _ _ h.2) (held_submission k h.0 true)
proof_held b c serial (suc (suc zero)) k now h =
    rw (now_is _ _ h.2) (record { step = ProvesToLeader (ckey_at b c serial); is = refl; current = (h.0, h.1, refl) })
proof_held b c serial (suc (suc (suc m))) k now h =
    let t : nat_eq (suc (suc (suc (suc m)))) 3 ≡ false = ne_eqb _ _ (λ e. omega (arith, e)) in rw (now_is _ _ h.2, t) refl

pub client_at : (b : Book) (f : FrameWorld) (w : World) (c : ℕ) → Follows b f w → b.foreign c ≡ false
    → ClientFollows b c (f.clients c) (w.lanes c).step (w.lanes c).serial
client_at b f w c h hon =
    subst (λ x. ClientAt b c x (f.clients c) (w.lanes c).step (w.lanes c).serial) hon (h.clients c)

-- a letter with a frame for a client comes
pub arrives : (b : Book) (f : FrameWorld) (l : Letter) (c : ℕ) (g : PlainFrame) (v : World)
    → Spelled l (ToClient c) g
    → Follows b (frames.comes f (ToClient c) (spelling g)) v → Follows b (frames.comes f l.to l.bytes) v
arrives b f l c g v k h = rw (k.at, k.bytes) h

pub held_deposit_comes : (b : Book) (o : Oracle) (f : FrameWorld) (w : World) (c s : ℕ) (l : Letter)
    → Follows b f w → b.foreign c ≡ false → Carries b (token.HeldDeposit c s) l
    → Follows b (frames.comes f l.to l.bytes) (comes o w (token.HeldDeposit c s))
unfolding comes frame_of client_does
held_deposit_comes b o f w c s l h hon k =
    let g : k.frame ≡ frame_with c s 0 (frame.Held false) = cc k.is in
    let spelled = subst (Spelled l (ToClient c)) g k.spelled in
    arrives b f l c _ _ spelled
    (hears_at b f w c s (w.lanes c).step (frame.Held false) HeardHeldDeposit _ h hon (whole_spelled _ spelled.is_frame) refl refl refl
    (λ m client now is same. deposit_held b c (w.lanes c).serial m client now is) (client_at b f w c h hon))

pub held_proof_comes : (b : Book) (o : Oracle) (f : FrameWorld) (w : World) (c s : ℕ) (l : Letter)
    → Follows b f w → b.foreign c ≡ false → Carries b (token.HeldProof c s) l
    → Follows b (frames.comes f l.to l.bytes) (comes o w (token.HeldProof c s))
unfolding comes frame_of client_does
held_proof_comes b o f w c s l h hon k =
    let g : k.frame ≡ frame_with c s 0 (frame.Held true) = cc k.is in
    let spelled = subst (Spelled l (ToClient c)) g k.spelled in
    arrives b f l c _ _ spelled
    (hears_at b f w c s (w.lanes c).step (frame.Held true) HeardHeldProof _ h hon (whole_spelled _ spelled.is_frame) refl refl refl
    (λ m client now is same. proof_held b c (w.lanes c).serial m client now is) (client_at b f w c h hon))
