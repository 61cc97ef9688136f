-- A client goes on to its next request, in both runs.
use Rattle.std.proofs.Common.{◌≡◌, ℕ, zero, suc, ◌<◌, ◌≤◌, ◌^◌, ◌+◌, ◌-◌, cond, nat_eq, nat_le, true, false, Bool, List, [], ◌∷◌, ◌++◌, length, take, Option, Some, None, Ok, Err, Result, slice_get, is_none, refl, sym, ap, ◌∙◌, subst, inl, inr, arith, add-one}
use Rattle.std.proofs.Math.Path.{fun_ext}
use Rattle.std.proofs.lemmas.Bool.{cases_eq, eq-eqb, eqb-true, ne_eqb, leb-true, false_from_ne_true}
use Rattle.mailbox_rules.specs.Requests.{Request, Register, Write, Read, Retire, opening_of}
use Rattle.token_rules.specs.Tokens as token
use Rattle.token_rules.specs.Tokens.{World, Lane, Requests, put}
use Rattle.token_rules.specs.Run.{goes_on, notes, waits, takes, is_refused, own_of, sent_of, with_lane, asks}
use Rattle.token_rules.proofs.Lists.{get_end, get_taken}
use Rattle.step_rules.specs.Client as client
use Rattle.step_rules.specs.Client.{Client, Current, Deposits, Fault}
use Rattle.step_rules.specs.ClientAsks.{asked, asked_with, own_fault, fault_at, with_request}
use Rattle.run_rules.specs.Letters.{FrameWorld, Told, NoOwnBox, Outcome}
use Rattle.run_rules.specs.Run as frames
use Rattle.run_rules.specs.Book.{Book, request_of, own_boxes}
use Rattle.run_rules.specs.Follows.{CurrentIs, ClientFollows, ClientAt, IsGood, TellsSame, IsOutcome, AreOutcomes, Sound, Within, Follows}
use Rattle.run_rules.proofs.Basics.{put_here, put_other, put_part, put_both}
use Rattle.run_rules.proofs.ClientHears.{client_at, client_follows}

pub put_same : {X : Type 0} (f : ℕ → X) (c : ℕ) → put f c (f c) ≡ f
put_same {X} f c = fun_ext (λ d. elim (cases_eq d c) [
  | inl e ↦ ap (put f c (f c)) e ∙ put_here f c (f c) ∙ ap f (sym e)
  | inr n ↦ put_other f c (f c) d n
])

-- ---- an outcome is noted

outcomes_more : (b : Book) (xs : List token.Outcome) (ys : List Outcome) (x : token.Outcome) (y : Outcome)
    → AreOutcomes b xs ys → IsOutcome b x y → AreOutcomes b (xs ++ x ∷ []) (ys ++ y ∷ [])
outcomes_more b [] [] x y h k = (k, tt)
outcomes_more b (z ∷ xs) (v ∷ ys) x y h k = (h.0, outcomes_more b xs ys x y h.1 k)
outcomes_more b [] (v ∷ ys) x y h k = absurd h
outcomes_more b (z ∷ xs) [] x y h k = absurd h

told_follows : (b : Book) (f : FrameWorld) (w : World) (c : ℕ) (x : token.Told) (y : Told) → Follows b f w
    → TellsSame b c x y
    → Follows b (frames.notes f c y) (record w {
      requests = put w.requests c (record (w.requests c) { told = (w.requests c).told + 1 });
      outcomes = w.outcomes ++ record { client = c; request = (w.requests c).told; told = x } ∷ [];
    })
told_follows b f w c x y h k =
    let mine : Requests = record (w.requests c) { told = (w.requests c).told + 1 } in
    record {
      limit = h.limit;
      width = h.width;
      window = h.window;
      foreign = h.foreign;
      helper = h.helper;
      leader = h.leader;
      clients = h.clients;
      waiting = λ d. h.waiting d ∙ sym (put_part (λ r. r.waiting) w.requests c mine refl d);
      told = put_both (λ d n. n ≡ (put w.requests c mine d).told) f.told c (f.told c + 1)
          (ap (λ n. n + 1) (h.told c) ∙ sym (ap (λ r. r.told) (put_here w.requests c mine)))
          (λ d n. h.told d ∙ sym (ap (λ r. r.told) (put_other w.requests c mine d n)));
      pool = h.pool;
      journal = h.journal;
      outcomes = outcomes_more b w.outcomes f.outcomes _ _ h.outcomes (record { client = refl; request = h.told c; told = k });
    }

pub notes_follow : (b : Book) (f : FrameWorld) (w : World) (c : ℕ) (k : Client) (x : token.Told) (y : Told)
    → Follows b f w
    → ClientAt b c (b.foreign c) k 0 (w.lanes c).serial → TellsSame b c x y
    → Follows b (frames.notes (frames.with_client f c k) c y) (notes w c x)
notes_follow b f w c k x y h hk t =
    told_follows b (frames.with_client f c k) (with_lane w c (record (w.lanes c) { step = 0 })) c x y (client_follows b f w c 0 k h hk) t

-- ---- what waits

pub waits_follow : (b : Book) (f : FrameWorld) (w : World) (c : ℕ) (rs : List Request) → Follows b f w
    → Follows b (frames.waits f c rs) (waits w c rs)
waits_follow b f w c rs h =
    let mine : Requests = record (w.requests c) { waiting = rs } in
    record {
      limit = h.limit;
      width = h.width;
      window = h.window;
      foreign = h.foreign;
      helper = h.helper;
      leader = h.leader;
      clients = h.clients;
      waiting = put_both (λ d n. n ≡ (put w.requests c mine d).waiting) f.waiting c rs
          (sym (ap (λ r. r.waiting) (put_here w.requests c mine)))
          (λ d n. h.waiting d ∙ sym (ap (λ r. r.waiting) (put_other w.requests c mine d n)));
      told = λ d. h.told d ∙ sym (put_part (λ r. r.told) w.requests c mine refl d);
      pool = h.pool;
      journal = h.journal;
      outcomes = h.outcomes;
    }

-- ---- a request is taken

-- the lane with its new request
abbrev pub asking : World → ℕ → Request → Lane
asking w c r = record (w.lanes c) { step = 1; serial = (w.lanes c).serial + 1; opening = opening_of r }

taken_client : (b : Book) (c s : ℕ) (k : Client) (r : Request) → c < b.settings.lanes
    → ClientFollows b c k 0 s → request_of b c (s + 1) ≡ Some r
    → ClientFollows b c (with_request k r) 1 (s + 1)
taken_client b c s k r low h q = record {
  mine = h.mine;
  seed = h.seed;
  width = h.width;
  capacity = h.capacity;
  there = λ pos. low;
  number = h.number ∙ sym (add-one s);
  current = (r, q, refl);
  owned = h.owned ∙ ap (own_boxes b c) (sym (add-one s));
}

takes_follow : (b : Book) (f : FrameWorld) (w : World) (c : ℕ) (r : Request) (rest : List Request)
    → Follows b f w → b.foreign c ≡ false → c < b.settings.lanes
    → ClientFollows b c (f.clients c) 0 (w.lanes c).serial
    → request_of b c ((w.lanes c).serial + 1) ≡ Some r
    → Follows b (frames.waits (frames.with_client f c (with_request (f.clients c) r)) c rest) (takes w c r rest)
takes_follow b f w c r rest h hon low k q =
    let lane = asking w c r in
    let mine : Requests = record (w.requests c) { sent = (w.requests c).sent ++ r ∷ []; waiting = rest } in
    let hh = h.helper in
    let la = h.leader in
    record {
      limit = h.limit;
      width = h.width;
      window = h.window;
      foreign = h.foreign;
      helper = record {
        settings = hh.settings;
        seed = hh.seed;
        count = hh.count;
        rows = λ d there. rw (put_part (λ l. l.helper) w.lanes c lane refl d) (hh.rows d there);
        boxes = hh.boxes;
        draws = hh.draws;
        number = hh.number;
        kept = hh.kept;
        window = hh.window;
        most = hh.most;
        begun = hh.begun;
      };
      leader = record {
        settings = la.settings;
        seed = la.seed;
        count = la.count;
        rows = λ d there. rw (put_part (λ l. l.leader) w.lanes c lane refl d) (la.rows d there);
        boxes = la.boxes;
        draws = la.draws;
        next = la.next;
        outstanding = la.outstanding;
        issued = la.issued;
        foreign = la.foreign;
        begun = la.begun;
        awaited = la.awaited;
      };
      clients = put_both (λ d x. ClientAt b d (b.foreign d) x (put w.lanes c lane d).step (put w.lanes c lane d).serial) f.clients c (with_request (f.clients c) r)
          (rw (put_here w.lanes c lane, hon) (taken_client b c (w.lanes c).serial (f.clients c) r low k q))
          (λ d n. rw (put_other w.lanes c lane d n) (h.clients d));
      waiting = put_both (λ d n. n ≡ (put w.requests c mine d).waiting) f.waiting c rest
          (sym (ap (λ r. r.waiting) (put_here w.requests c mine)))
          (λ d n. h.waiting d ∙ sym (ap (λ r. r.waiting) (put_other w.requests c mine d n)));
      told = λ d. h.told d ∙ sym (put_part (λ r. r.told) w.requests c mine refl d);
      pool = h.pool;
      journal = h.journal;
      outcomes = h.outcomes;
    }

-- ---- what the client answers to a request

-- no serial is spent, the client has all boxes of its lane, and there is room for them
pub record CanAsk (b : Book) (k : Client) (s : ℕ) (got : List ℕ) : Type 0 where
  pub serials : s + 1 < 2 ^ 32
  pub boxes : length got ≤ b.settings.boxes
  pub all : length k.owned ≡ length got

abbrev pub if_refused : Client → Request → Bool → Result Client Fault
if_refused k r true = Err (client.NoBox (own_of r))
if_refused k r false = Ok (with_request k r)

asked_is : (b : Book) (c s : ℕ) (w : World) (k : Client) (r : Request)
    → ClientFollows b c k 0 s → CanAsk b k s (w.table.got c)
    → (is_refused w c r ≡ false → IsGood b r)
    → asked k r ≡ if_refused k r (is_refused w c r)
unfolding asked is_refused
asked_is b c s w k r h can good =
    let serial = h.number in
    let serials = can.serials in
    let unspent : nat_le (2 ^ 32) k.serial ≡ false = false_from_ne_true _ (λ t. let l = leb-true _ _ t in omega (arith, l, serial, serials)) in
    ap (λ now. asked_with k r (fault_at k r now)) h.current ∙ ap (λ t. asked_with k r (cond t (Some client.Spent) (own_fault k r))) unspent ∙ by_request r good
  where
    by_test : (t u : Bool) (r : Request) → t ≡ u
        → asked_with k r (cond t (Some (client.NoBox (own_of r))) None) ≡ if_refused k r u
    by_test true true r e = refl
    by_test false false r e = refl
    by_test true false r e = absurd (cc e)
    by_test false true r e = absurd (cc e)

    by_request : (r : Request) → (is_refused w c r ≡ false → IsGood b r)
        → asked_with k r (own_fault k r) ≡ if_refused k r (is_refused w c r)
    by_request (Register address) good =
        let few = can.all in
        let size = h.capacity in
        let boxes = can.boxes in
        let room : nat_le k.capacity (length k.owned) ≡ false = false_from_ne_true _ (λ t. let l = leb-true _ _ t in omega (arith, l, few, size, boxes)) in
        ap (λ t. asked_with k (Register address) (cond t (Some (client.OwnFull k.capacity)) None)) room
    by_request (Write target message) good =
        let wide : nat_eq (length message) k.width ≡ true = eq-eqb _ _ ((good refl).1 ∙ sym h.width) in
        ap (λ t. asked_with k (Write target message) (cond t None (Some (client.Width k.width)))) wide
    by_request (Read own) good = by_test (nat_le (length k.owned) own) (nat_le (length (w.table.got c)) own) (Read own) (ap (λ n. nat_le n own) can.all)
    by_request (Retire own) good = by_test (nat_le (length k.owned) own) (nat_le (length (w.table.got c)) own) (Retire own) (ap (λ n. nat_le n own) can.all)

sent_is : (b : Book) (w : World) (c : ℕ) (r : Request) (rest : List Request)
    → (w.lanes c).serial ≡ length (sent_of w c) → Within b (takes w c r rest)
    → request_of b c ((w.lanes c).serial + 1) ≡ Some r
sent_is b w c r rest e within =
    let mine : Requests = record (w.requests c) { sent = (w.requests c).sent ++ r ∷ []; waiting = rest } in
    let s = (w.lanes c).serial in
    let all = subst (λ xs. xs ≡ take (length xs) (b.sent c)) (ap (λ r. r.sent) (put_here w.requests c mine)) (within.sent c) in
    let last : slice_get (sent_of w c ++ r ∷ []) s ≡ Some r = subst (λ n. slice_get (sent_of w c ++ r ∷ []) n ≡ Some r) (sym e) (get_end (sent_of w c) r) in
    let n : s + 1 - 1 ≡ s = omega arith in
    rw n (get_taken (b.sent c) _ s r (ap (λ xs. slice_get xs s) (sym all) ∙ last)).1

pub goes_on_follows : (b : Book) (f : FrameWorld) (w : World) (c : ℕ) (rs : List Request) → Sound b → Follows b f w
    → b.foreign c ≡ false → c < b.settings.lanes → (w.lanes c).step ≡ 0
    → (w.lanes c).serial ≡ length (sent_of w c) → CanAsk b (f.clients c) (w.lanes c).serial (w.table.got c)
    → Within b (goes_on w c rs)
    → Follows b (frames.goes_on f c rs) (goes_on w c rs)
unfolding goes_on frames.goes_on frames.was_asked
goes_on_follows b f w c [] sound h hon low idle sent can within = waits_follow b f w c [] h
goes_on_follows b f w c (r ∷ rest) sound h hon low idle sent can within =
    let k : ClientFollows b c (f.clients c) 0 (w.lanes c).serial = subst (λ n. ClientFollows b c (f.clients c) n (w.lanes c).serial) idle (client_at b f w c h hon) in
    let refused = token.NoOwnBox (own_of r) in
    let v = notes w c refused in
    let noted : Follows b (frames.notes f c (NoOwnBox (own_of r))) v =
    subst (λ clients. Follows b (frames.notes (record f { clients = clients }) c (NoOwnBox (own_of r))) v) (put_same f.clients c)
    (notes_follow b f w c (f.clients c) refused (NoOwnBox (own_of r)) h (rw hon k) refl) in
    let lane = put_here w.lanes c (record (w.lanes c) { step = 0 }) in
    let mine = put_here w.requests c (record (w.requests c) { told = (w.requests c).told + 1 }) in
    let serial : (v.lanes c).serial ≡ (w.lanes c).serial = ap (λ l. l.serial) lane in
    let same : sent_of v c ≡ sent_of w c = ap (λ r. r.sent) mine in
    rw (asked_is b c (w.lanes c).serial w (f.clients c) r k can (good (is_refused w c r) within))
    (at_test (is_refused w c r) k within
    (λ there. goes_on_follows b (frames.notes f c (NoOwnBox (own_of r))) v c rest sound noted hon low (ap (λ l. l.step) lane)
    (serial ∙ sent ∙ ap length (sym same)) (record { serials = rw serial can.serials; boxes = can.boxes; all = can.all }) there))
  where
    good : (t : Bool) → Within b (cond t (goes_on (notes w c (token.NoOwnBox (own_of r))) c rest) (takes w c r rest)) → t ≡ false → IsGood b r
    good false there e = sound.requests c ((w.lanes c).serial + 1) r (sent_is b w c r rest sent there)
    good true there e = absurd (cc e)

    at_test : (t : Bool) → ClientFollows b c (f.clients c) 0 (w.lanes c).serial
        → Within b (cond t (goes_on (notes w c (token.NoOwnBox (own_of r))) c rest) (takes w c r rest))
        → (Within b (goes_on (notes w c (token.NoOwnBox (own_of r))) c rest) → Follows b (frames.goes_on (frames.notes f c (NoOwnBox (own_of r))) c rest) (goes_on (notes w c (token.NoOwnBox (own_of r))) c rest))
        → Follows b (frames.was_asked f c rest (frames.goes_on (frames.notes f c (NoOwnBox (own_of r))) c rest) (if_refused (f.clients c) r t)) (cond t (goes_on (notes w c (token.NoOwnBox (own_of r))) c rest) (takes w c r rest))
    at_test false k within next = takes_follow b f w c r rest h hon low k (sent_is b w c r rest sent within)
    at_test true k within next = next within

-- ---- a client is asked

pub idle_same : (b : Book) (c n s : ℕ) (current : Option Current) → CurrentIs b c n s current
    → is_none current ≡ nat_eq n 0
idle_same b c zero s current h = ap (λ x. is_none x) h
idle_same b c (suc zero) s current h = ap (λ x. is_none x) h.2
idle_same b c (suc (suc zero)) s current h = ap (λ x. is_none x) h.2
idle_same b c (suc (suc (suc zero))) s current h = ap (λ x. is_none x) h.2
idle_same b c (suc (suc (suc (suc n)))) s current h =
    let t : nat_eq (suc (suc (suc (suc n)))) 0 ≡ false = ne_eqb _ _ (λ e. omega (arith, e)) in ap (λ x. is_none x) h.2 ∙ sym t

pub asks_follow : (b : Book) (f : FrameWorld) (w : World) (c : ℕ) (r : Request) → Sound b → Follows b f w
    → b.foreign c ≡ false → c < b.settings.lanes
    → (w.lanes c).serial ≡ length (sent_of w c) → CanAsk b (f.clients c) (w.lanes c).serial (w.table.got c)
    → Within b (asks w c r)
    → Follows b (frames.asks f c r) (asks w c r)
unfolding asks
asks_follow b f w c r sound h hon low sent can within =
    let k = client_at b f w c h hon in
    let idle = idle_same b c _ _ _ k.current in
    rw (idle, h.waiting c) (at_test (nat_eq (w.lanes c).step 0) (λ t. eqb-true _ _ t) within)
  where
    at_test : (t : Bool) → (t ≡ true → (w.lanes c).step ≡ 0)
        → Within b (cond t (goes_on w c ((w.requests c).waiting ++ r ∷ [])) (waits w c ((w.requests c).waiting ++ r ∷ [])))
        → Follows b (cond t (frames.goes_on f c ((w.requests c).waiting ++ r ∷ [])) (frames.waits f c ((w.requests c).waiting ++ r ∷ []))) (cond t (goes_on w c ((w.requests c).waiting ++ r ∷ [])) (waits w c ((w.requests c).waiting ++ r ∷ [])))
    at_test true idle there = goes_on_follows b f w c ((w.requests c).waiting ++ r ∷ []) sound h hon low (idle refl) sent can there
    at_test false idle there = waits_follow b f w c ((w.requests c).waiting ++ r ∷ []) h
