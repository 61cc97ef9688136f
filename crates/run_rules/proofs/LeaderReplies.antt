-- The helper's replies at the leader, in both runs.
use Rattle.std.proofs.Common.{◌≡◌, ℕ, zero, suc, ◌<◌, ◌+◌, ◌-◌, ◌&&◌, cond, nat_eq, nat_lt, true, false, List, [], ◌∷◌, length, drop, Option, Some, None, slice_get, refl, sym, ap, ◌∙◌, subst, inl, inr, arith, Bool, append-nil}
use Rattle.std.proofs.lemmas.Bool.{cases_Bool, eq-eqb, eqb-true, lt-ltb}
use Rattle.std.proofs.lemmas.List.{length-set}
use Rattle.std.proofs.lemmas.Option.{slice_get_within}
use Rattle.frame_rules.specs.Frames.{PlainFrame, PlainBody}
use Rattle.frame_rules.specs.Spelling.{spelling, IsFrame}
use Rattle.mailbox_rules.specs.Requests.{Line}
use Rattle.token_rules.specs.Tokens as token
use Rattle.token_rules.specs.Tokens.{Token, World, Lane, put, Oracle}
use Rattle.token_rules.specs.Run.{kept, reply_comes, reply_applied}
use Rattle.token_rules.specs.Stages.{Stage}
use Rattle.token_rules.specs.Invariant.{Numbered, state}
use Rattle.token_rules.proofs.Cases.{answers}
use Rattle.step_rules.specs.Boxes.{Box}
use Rattle.step_rules.specs.Leader.{Leader, Row, with_row, AckTurn, ToLane}
use Rattle.step_rules.specs.LeaderReplies as steps
use Rattle.run_rules.specs.Letters.{letter, ToClient, FrameWorld}
use Rattle.run_rules.specs.Run as frames
use Rattle.run_rules.specs.Book.{Book}
use Rattle.run_rules.specs.Values.{boxes_at}
use Rattle.run_rules.specs.Frames.{frame_with, frame_of, command_body}
use Rattle.run_rules.specs.Follows.{Carries, LeaderRow, LeaderRowAt, IsCommand, AreCommands, IsIssued, Follows}
use Rattle.run_rules.proofs.ForeignLeaderCounts.{EntryOf, was_begun_more, not_foreign, awaited_set}
use Rattle.run_rules.proofs.ForeignCommands.{foreign_set}
use Rattle.run_rules.proofs.Basics.{put_here, put_other, put_part, pools_append}
use Rattle.run_rules.proofs.LeaderClients.{rows_set, issued_set}

-- ---- a reply is applied, and its lane is answered

abbrev pub applied : Leader → ℕ → Row → List Box → PlainBody → ℕ → AckTurn
applied a c r boxes body s = record {
  leader = record (with_row a c r) { boxes = boxes; outstanding = drop 1 a.outstanding };
  ack = ToLane c (frame_with c s 0 body);
}

pub drop_next : {X : Type 0} (n : ℕ) (xs : List X) → drop (n + 1) xs ≡ drop 1 (drop n xs)
drop_next zero xs = refl
drop_next (suc n) [] = let e : suc n + 1 ≡ suc (suc n) = omega arith in ap (λ m. drop m []) e
drop_next (suc n) (x ∷ xs) =
    let e : suc n + 1 ≡ suc (n + 1) = omega arith in ap (λ m. drop m (x ∷ xs)) e ∙ drop_next n xs

pub commands_next : (b : Book) (n : ℕ) (xs : List Line) (fs : List PlainFrame) → AreCommands b n xs fs
    → AreCommands b (suc n) (drop 1 xs) (drop 1 fs)
commands_next b n [] [] h = tt
commands_next b n (x ∷ xs) (f ∷ fs) h = h.1
commands_next b n [] (f ∷ fs) h = absurd h
commands_next b n (x ∷ xs) [] h = absurd h

pub applied_follows : (b : Book) (f : FrameWorld) (w : World) (c s : ℕ) (x : token.Phase) (t : Token) (r : Row) (boxes : List Box) (body : PlainBody)
    → Follows b f w → b.foreign c ≡ false → c < b.settings.lanes → kept c s x ≡ t ∷ []
    → LeaderRow b c r (token.row s x) → IsIssued w.commands c r.serial r.stage
    → EntryOf b w.acknowledged c → boxes ≡ boxes_at b 0 (w.acknowledged + 1)
    → Carries b t (letter (ToClient c) (spelling (frame_with c s 0 body)))
    → Follows b (frames.to_leader_link f (applied f.leader c r boxes body s)) (answers w c s x)
applied_follows b f w c s x t r boxes body h hon low tokens hr settles entered boxed said =
    let lane : Lane = record (w.lanes c) { leader = token.row s x } in
    let new = put w.lanes c lane in
    let hh = h.helper in
    let la = h.leader in
    let n : suc (w.acknowledged + 1) ≡ suc (suc w.acknowledged) = omega arith in
    record {
      limit = h.limit;
      width = h.width;
      window = h.window;
      foreign = h.foreign;
      helper = record {
        settings = hh.settings;
        seed = hh.seed;
        count = hh.count;
        rows = λ d there. rw (put_part (λ l. l.helper) w.lanes c lane refl d) (hh.rows d there);
        boxes = hh.boxes;
        draws = hh.draws;
        number = hh.number;
        kept = hh.kept;
        window = hh.window;
        most = hh.most;
        begun = hh.begun;
      };
      leader = record {
        settings = la.settings;
        seed = la.seed;
        count = length-set f.leader.rows c r ∙ la.count;
        rows = rows_set b f.leader.rows w.lanes new c r (token.row s x) la.count low la.rows
            (ap (λ l. l.leader) (put_here w.lanes c lane)) (λ d n. ap (λ l. l.leader) (put_other w.lanes c lane d n))
            (subst (λ t. LeaderRowAt b c t r (token.row s x)) (sym hon) hr);
        boxes = boxed;
        draws = la.draws;
        next = la.next;
        outstanding = rw (n, drop_next w.acknowledged w.commands) (commands_next b (suc w.acknowledged) (drop w.acknowledged w.commands) f.leader.outstanding la.outstanding);
        issued = issued_set b f.leader.rows w.commands w.commands c r la.count low la.issued (λ t. settles) (λ d n stage other k. k);
        foreign = foreign_set b f.leader.rows w.commands c r hon la.foreign;
        begun = was_begun_more b f.leader.rows w.acknowledged c r la.count low entered la.begun (λ t. absurd (not_foreign b c hon t));
        awaited = awaited_set b f.leader.rows w.acknowledged (w.acknowledged + 1) c r w.commands hon (omega arith) la.awaited;
      };
      clients = λ d. rw (put_part (λ l. l.step) w.lanes c lane refl d, put_part (λ l. l.serial) w.lanes c lane refl d) (h.clients d);
      waiting = h.waiting;
      told = h.told;
      pool = rw tokens (pools_append b w.pool (t ∷ []) f.pool _ h.pool (said, tt));
      journal = h.journal;
      outcomes = h.outcomes;
    }

-- ---- the oldest outstanding command

pub record Oldest (b : Book) (f : FrameWorld) (w : World) (x : Line) : Type 0 where
  pub command : PlainFrame
  pub is : slice_get f.leader.outstanding 0 ≡ Some command
  pub link : command.link ≡ w.acknowledged + 1
  pub of : IsCommand b (b.foreign x.lane) (w.acknowledged + 1) x command
  pub is_frame : IsFrame command
  pub low : x.lane < b.settings.lanes

link_of : (b : Book) (t : Bool) (n : ℕ) (x : Line) (g : PlainFrame) → IsCommand b t n x g → g.link ≡ n
unfolding frame_of
link_of b true n x g h = h.0
link_of b false n x g h =
    let same : frame_with x.lane x.serial n (command_body b (n - 1) x x.command) ≡ g = cc in ap (λ g. g.link) (sym same)

oldest_in : (b : Book) (n : ℕ) (xs : List Line) (fs : List PlainFrame) (x : Line) → AreCommands b n xs fs
    → slice_get xs 0 ≡ Some x
    → (g : PlainFrame) × ((slice_get fs 0 ≡ Some g) × IsCommand b (b.foreign x.lane) n x g × IsFrame g × (x.lane < b.settings.lanes))
oldest_in b n (y ∷ xs) (f ∷ fs) x h e =
    let same : y ≡ x = cc in (f, (refl, subst (λ y. IsCommand b (b.foreign y.lane) n y f) same h.0.0, h.0.1, subst (λ y. y.lane < b.settings.lanes) same h.0.2))
oldest_in b n [] fs x h e = absurd (cc e)
oldest_in b n (y ∷ xs) [] x h e = absurd h

pub get_first : {X : Type 0} (n : ℕ) (xs : List X) → slice_get (drop n xs) 0 ≡ slice_get xs n
get_first zero xs = refl
get_first (suc n) [] = refl
get_first (suc n) (x ∷ xs) = get_first n xs

pub oldest_is : (b : Book) (f : FrameWorld) (w : World) (x : Line) → Follows b f w
    → slice_get w.commands w.acknowledged ≡ Some x → Oldest b f w x
oldest_is b f w x h e =
    let a = oldest_in b (suc w.acknowledged) (drop w.acknowledged w.commands) f.leader.outstanding x h.leader.outstanding (get_first w.acknowledged w.commands ∙ e) in
    let n : suc w.acknowledged ≡ w.acknowledged + 1 = omega arith in
    let of : IsCommand b (b.foreign x.lane) (w.acknowledged + 1) x a.0 = rw (sym n) a.1.1 in
    record { command = a.0; is = a.1.0; link = link_of b _ _ x a.0 of; of = of; is_frame = a.1.2; low = a.1.3 }

pub none_out : (b : Book) (n : ℕ) (xs : List Line) (fs : List PlainFrame) → AreCommands b n xs fs
    → slice_get xs 0 ≡ None → slice_get fs 0 ≡ None
none_out b n [] [] h e = refl
none_out b n (x ∷ xs) fs h e = absurd (cc e)
none_out b n [] (f ∷ fs) h e = absurd h

pub no_letters : (b : Book) (f : FrameWorld) (w : World) → Follows b f w → Follows b (frames.posts f []) w
no_letters b f w h = record {
  limit = h.limit;
  width = h.width;
  window = h.window;
  foreign = h.foreign;
  helper = h.helper;
  leader = h.leader;
  clients = h.clients;
  waiting = h.waiting;
  told = h.told;
  pool = rw (append-nil f.pool) h.pool;
  journal = h.journal;
  outcomes = h.outcomes;
}

-- a command's frame has its number, lane and serial
pub command_is : (b : Book) (n : ℕ) (x : Line) (c : PlainFrame) → IsCommand b false n x c
    → frame_with x.lane x.serial n (command_body b (n - 1) x x.command) ≡ c
unfolding frame_of
command_is b n x c h = cc

-- ---- any reply of an honest lane

module _ (b : Book) (o : Oracle) (f : FrameWorld) (w : World) (p : ℕ → Stage) (n : ℕ) (x : Line) (g : PlainFrame) (h : Follows b f w) (number : Numbered (state w p) n x)
    (hon : b.foreign x.lane ≡ false) (link : g.link ≡ n) (lane : g.lane ≡ x.lane) (serial : g.serial ≡ x.serial) where
  -- it isn't that to the oldest command
  other_head : (found : Option PlainFrame)
      → ((c : PlainFrame) → found ≡ Some c → nat_eq g.link c.link ≡ false)
      → Follows b (frames.to_leader_link f (steps.answers f.leader g found)) w
  unfolding steps.answers
  other_head None k = no_letters b f w h
  other_head (Some c) k = let t = k c refl in rw t (no_letters b f w h)

  heads : (found : Option Line) → slice_get w.commands w.acknowledged ≡ found
      → nat_eq n (w.acknowledged + 1) ≡ false → (c : PlainFrame) → slice_get f.leader.outstanding 0 ≡ Some c
      → nat_eq g.link c.link ≡ false
  heads (Some y) e t c is =
      let a = oldest_is b f w y h e in
      let both : Some a.command ≡ Some c = sym a.is ∙ is in
      let same : a.command ≡ c = cc in
      let number : c.link ≡ w.acknowledged + 1 = sym (ap (λ g. g.link) same) ∙ a.link in
      rw (link, number) t
  heads None e t c is = let none = none_out b _ _ _ h.leader.outstanding (get_first w.acknowledged w.commands ∙ e) in let never : None ≡ Some c = sym none ∙ is in absurd (cc never)

  all_same : (c : PlainFrame) → frame_with x.lane x.serial n (command_body b (n - 1) x x.command) ≡ c
      → (nat_eq g.link c.link && (nat_eq g.lane c.lane && nat_eq g.serial c.serial)) ≡ true
  all_same c same =
      let one : nat_eq g.link c.link ≡ true = eq-eqb _ _ (link ∙ ap (λ g. g.link) same) in
      let two : nat_eq g.lane c.lane ≡ true = eq-eqb _ _ (lane ∙ ap (λ g. g.lane) same) in
      let three : nat_eq g.serial c.serial ≡ true = eq-eqb _ _ (serial ∙ ap (λ g. g.serial) same) in
      rw (one, two, three) refl

  -- it is
  pub reply_follows : ((c : PlainFrame) → IsCommand b (b.foreign x.lane) n x c → w.acknowledged + 1 ≡ n
      → Follows b (frames.to_leader_link f (steps.if_fits f.leader (steps.fits f.leader c g.body (steps.refusal_in g.body)))) (reply_applied o w x))
      → Follows b (frames.to_leader_link f (steps.if_reply f.leader (Some g))) (reply_comes o w n x)
  unfolding steps.if_reply steps.answers reply_comes
  reply_follows on_applied = elim (cases_Bool (nat_eq n (w.acknowledged + 1))) [
    | inl t ↦ is_oldest t (eqb-true _ _ t)
    | inr t ↦ rw t (other_head (slice_get f.leader.outstanding 0) (heads (slice_get w.commands w.acknowledged) refl t))
  ]
    where
      matched : (c : PlainFrame) → IsCommand b (b.foreign x.lane) n x c
          → Follows b (frames.to_leader_link f (steps.if_fits f.leader (steps.fits f.leader c g.body (steps.refusal_in g.body)))) (reply_applied o w x)
          → Follows b (frames.to_leader_link f (steps.answers f.leader g (Some c))) (reply_applied o w x)
      matched c of k =
          let same = command_is b n x c (rw hon at of) in
          let tests : (nat_eq g.link c.link && (nat_eq g.lane c.lane && nat_eq g.serial c.serial)) ≡ true = all_same c same in
          rw tests k

      is_oldest : nat_eq n (w.acknowledged + 1) ≡ true → n ≡ w.acknowledged + 1
          → Follows b (frames.to_leader_link f (steps.answers f.leader g (slice_get f.leader.outstanding 0))) (cond (nat_eq n (w.acknowledged + 1) && nat_lt w.acknowledged (length w.commands)) (reply_applied o w x) w)
      is_oldest t e =
          let next = number.next in
          let there : slice_get w.commands w.acknowledged ≡ Some x = subst (λ i. slice_get w.commands i ≡ Some x) (omega (arith, e, next)) number.is in
          let u : nat_lt w.acknowledged (length w.commands) ≡ true = lt-ltb _ _ (slice_get_within w.commands w.acknowledged x there) in
          let a = oldest_is b f w x h there in
          let of = subst (λ m. IsCommand b (b.foreign x.lane) m x a.command) (sym e) a.of in
          rw (t, u, a.is) (matched a.command of (on_applied a.command of (sym e)))
