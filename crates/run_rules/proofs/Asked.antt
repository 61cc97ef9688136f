-- What the moves of a `finish` ask of the frame run is what they ask of the token run; and both start together.
use Rattle.std.proofs.Common.{◌≡◌, ℕ, zero, suc, ◌-◌, cond, nat_eq, nat_lt, is_none, true, false, Bool, List, [], ◌∷◌, length, drop, map, Option, Some, None, refl, sym, ap, ◌∙◌, inl, inr, arith, length-drop}
use Rattle.std.proofs.lemmas.Bool.{cases_Bool, ltb-true, ltb-false, lt-ltb, false_from_ne_true}
use Rattle.std.proofs.lemmas.List.{length-replicate, get_or-replicate}
use Rattle.token_rules.specs.Tokens as token
use Rattle.token_rules.specs.Tokens.{World, Token}
use Rattle.token_rules.specs.Run.{is_for, last_for}
use Rattle.step_rules.specs.Helper as helper
use Rattle.step_rules.specs.Leader as leader
use Rattle.step_rules.specs.Client as client
use Rattle.run_rules.specs.Letters.{Letter, FrameWorld, ToHelperLink, ToLeaderLink, opened}
use Rattle.run_rules.specs.Run as frames
use Rattle.run_rules.specs.Run.{frame_moves}
use Rattle.run_rules.specs.Book.{Book, own_boxes, owned_box}
use Rattle.run_rules.specs.Values.{boxes_at, shares_at}
use Rattle.mailbox_rules.specs.Tables.{table_after, table_from}
use Rattle.mailbox_rules.specs.Owned.{own_below}
use Rattle.run_rules.specs.Follows.{IsLinked, Carries, Pools, ClientAt, HelperRowAt, LeaderRowAt, Follows}
use Rattle.run_rules.specs.Known.{Known}
use Rattle.run_rules.specs.Laws.{first}
use Rattle.run_rules.proofs.Basics.{pools_length}
use Rattle.run_rules.proofs.OwnBoxes.{owned_in}
use Rattle.run_rules.proofs.GoesOn.{idle_same}
use Rattle.run_rules.proofs.LeaderClients.{commands_length}

pub same_size : (b : Book) (f : FrameWorld) (w : World) → Follows b f w → frame_moves.size f ≡ length w.pool
same_size b f w h = pools_length b w.pool f.pool h.pool

pub same_outstanding : (b : Book) (f : FrameWorld) (w : World) → Follows b f w
    → frame_moves.outstanding f ≡ length w.commands - w.acknowledged
same_outstanding b f w h =
    commands_length b _ _ _ h.leader.outstanding ∙ length-drop w.acknowledged w.commands

pub same_busy : (b : Book) (f : FrameWorld) (w : World) → Follows b f w
    → frame_moves.is_busy f ≡ nat_lt w.acknowledged (length w.commands)
same_busy b f w h =
    let n = same_outstanding b f w h in
    elim (cases_Bool (nat_lt w.acknowledged (length w.commands))) [
      | inl t ↦ let l = ltb-true _ _ t in lt-ltb _ _ (omega (arith, n, l)) ∙ sym t
      | inr t ↦ let l = ltb-false _ _ t in false_from_ne_true _ (λ u. let m = ltb-true _ _ u in omega (arith, n, l, m)) ∙ sym t
    ]

pub same_idle : (b : Book) (f : FrameWorld) (w : World) (c : ℕ) → Follows b f w
    → frame_moves.is_idle f c ≡ nat_eq (w.lanes c).step 0
same_idle b f w c h = at_lane (b.foreign c) (h.clients c)
  where
    at_lane : (t : Bool) → ClientAt b c t (f.clients c) (w.lanes c).step (w.lanes c).serial
        → is_none (f.clients c).current ≡ nat_eq (w.lanes c).step 0
    at_lane false k = idle_same b c _ _ _ k.current
    at_lane true k = ap (λ now. is_none now) k.0 ∙ sym (ap (λ n. nat_eq n 0) k.1)

pub same_waiting : (b : Book) (f : FrameWorld) (w : World) (c : ℕ) → Follows b f w
    → frame_moves.waiting f c ≡ length (w.requests c).waiting
same_waiting b f w c h = ap length (h.waiting c)

-- ---- the last letter for a client is that of the last token for it

pub pools_drop : (b : Book) (n : ℕ) (ts : List Token) (ls : List Letter) → Pools b ts ls
    → Pools b (drop n ts) (drop n ls)
pools_drop b zero ts ls h = h
pools_drop b (suc n) [] [] h = h
pools_drop b (suc n) (t ∷ ts) (l ∷ ls) h = pools_drop b n ts ls h.1
pools_drop b (suc n) [] (l ∷ ls) h = absurd h
pools_drop b (suc n) (t ∷ ts) [] h = absurd h

pub for_same : (b : Book) (c : ℕ) (t : Token) (l : Letter) → Carries b t l → frames.is_for c l.to ≡ is_for c t
unfolding is_for
for_same b c (token.Deposit d s) l h = ap (frames.is_for c) h.spelled.at
for_same b c (token.Submission d s y) l h = ap (frames.is_for c) h.1.spelled.at
for_same b c (token.ProofToHelper d s) l h = ap (frames.is_for c) h.spelled.at
for_same b c (token.ProofToLeader d s) l h = ap (frames.is_for c) h.spelled.at
for_same b c (token.HeldDeposit d s) l h = ap (frames.is_for c) h.spelled.at
for_same b c (token.HeldProof d s) l h = ap (frames.is_for c) h.spelled.at
for_same b c (token.Challenge d s) l h = ap (frames.is_for c) h.spelled.at
for_same b c (token.Answer d s) l h = ap (frames.is_for c) h.spelled.at
for_same b c (token.Later d s) l h = ap (frames.is_for c) h.spelled.at
for_same b c (token.Foreign d) l h = ap (frames.is_for c) h.spelled.at
for_same b c (token.Injected true lane) l h = ap (frames.is_for c) h.0
for_same b c (token.Injected false lane) l h = ap (frames.is_for c) h.0
for_same b c (token.Ordered n x) l h = linked (b.foreign x.lane) h
  where
    linked : (t : Bool) → IsLinked b l ToHelperLink n x (token.Ordered n x) t → frames.is_for c l.to ≡ false
    linked true h = ap (frames.is_for c) h.spelled.at
    linked false h = ap (frames.is_for c) h.spelled.at
for_same b c (token.Replied n x) l h = linked (b.foreign x.lane) h
  where
    linked : (t : Bool) → IsLinked b l ToLeaderLink n x (token.Replied n x) t → frames.is_for c l.to ≡ false
    linked true h = ap (frames.is_for c) h.spelled.at
    linked false h = ap (frames.is_for c) h.spelled.at

abbrev pub Found : Book → Option Token → Option Letter → Type 0
Found b (Some t) (Some l) = Carries b t l
Found b None None = Unit {0}
Found b t l = ⊥

pub last_same : (b : Book) (c : ℕ) (t : Option Token) (l : Option Letter) (ts : List Token) (ls : List Letter) → Found b t l → Pools b ts ls → Found b (last_for c t ts) (frames.last_for c l ls)
unfolding last_for frames.last_for
last_same b c t l [] [] k h = k
last_same b c t l (u ∷ ts) (m ∷ ls) k h =
    last_same b c (cond (is_for c u) (Some u) t) (cond (frames.is_for c m.to) (Some m) l) ts ls (at_test (is_for c u) (frames.is_for c m.to) (for_same b c u m h.0)) h.1
  where
    at_test : (x y : Bool) → y ≡ x → Found b (cond x (Some u) t) (cond y (Some m) l)
    at_test true true e = h.0
    at_test false false e = k
    at_test true false e = absurd (cc)
    at_test false true e = absurd (cc)
last_same b c t l [] (m ∷ ls) k h = absurd h
last_same b c t l (u ∷ ts) [] k h = absurd h

-- ---- both start together

idle_helper : (b : Book) (c : ℕ) (t : Bool) → HelperRowAt b c t helper.idle (token.row 0 token.Idle)
idle_helper b c false =
    record { bare = refl; small = omega arith; want = λ pos. absurd (omega (arith, pos)); holds = refl }
idle_helper b c true = record { bare = refl; small = omega arith; holds = refl }

idle_leader : (b : Book) (c : ℕ) (t : Bool) → LeaderRowAt b c t leader.idle (token.row 0 token.Idle)
idle_leader b c false =
    record { bare = refl; small = omega arith; want = λ pos. absurd (omega (arith, pos)); holds = refl }
idle_leader b c true = record { bare = refl; small = omega arith; holds = refl }

idle_client : (b : Book) (v : World) (c : ℕ) (t : Bool) → b.foreign c ≡ t → Known b v (first b)
    → ClientAt b c t ((opened b.settings b.seed).clients c) 0 0
unfolding client.opened_client own_boxes own_below
idle_client b v c false hon k = record {
  mine = refl;
  seed = refl;
  width = refl;
  capacity = refl;
  there = λ pos. absurd (omega (arith, pos));
  number = refl;
  current = refl;
  owned = ap (map (owned_box b c)) (sym (owned_in b v (first b) c k hon));
}
idle_client b v c true hon k = (refl, refl)

no_boxes : (b : Book) (server : ℕ) → [] ≡ boxes_at b server 0
unfolding shares_at table_after table_from
no_boxes b server = refl

pub start_follows : (b : Book) (v : World) → Known b v (first b) → Follows b (opened b.settings b.seed) (first b)
unfolding helper.opened_server leader.opened_leader
start_follows b v k = record {
  limit = refl;
  width = refl;
  window = refl;
  foreign = refl;
  helper = record {
    settings = refl;
    seed = refl;
    count = length-replicate b.settings.lanes helper.idle;
    rows = λ c low. rw (get_or-replicate b.settings.lanes c helper.idle helper.idle low) (idle_helper b c (b.foreign c));
    boxes = no_boxes b 1;
    draws = refl;
    number = refl;
    kept = tt;
    window = inr refl;
    most = omega arith;
    begun = λ c low foreign. rw (get_or-replicate b.settings.lanes c helper.idle helper.idle low) tt;
  };
  leader = record {
    settings = refl;
    seed = refl;
    count = length-replicate b.settings.lanes leader.idle;
    rows = λ c low. rw (get_or-replicate b.settings.lanes c leader.idle leader.idle low) (idle_leader b c (b.foreign c));
    boxes = no_boxes b 0;
    draws = refl;
    next = refl;
    outstanding = tt;
    issued = λ c low hon. rw (get_or-replicate b.settings.lanes c leader.idle leader.idle low) tt;
    foreign = record {
      once = λ i k x e g foreign. absurd (cc e);
      there = λ k x e foreign. absurd (cc e);
      still = λ c low foreign. rw (get_or-replicate b.settings.lanes c leader.idle leader.idle low) (λ k e. cc e, λ k e. cc e);
    };
    begun = λ c low foreign. rw (get_or-replicate b.settings.lanes c leader.idle leader.idle low) tt;
    awaited = λ k x low e foreign. absurd (cc e);
  };
  clients = λ c. idle_client b v c (b.foreign c) refl k;
  waiting = λ c. refl;
  told = λ c. refl;
  pool = tt;
  journal = tt;
  outcomes = tt;
}
