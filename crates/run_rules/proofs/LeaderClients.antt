-- What a client's frame does at the leader, in both runs.
use Rattle.std.proofs.Common.{◌≡◌, ◌≢◌, ℕ, zero, suc, ◌<◌, ◌≤◌, ◌^◌, ◌+◌, ◌-◌, cond, nat_eq, nat_lt, nat_le, true, false, List, [], ◌∷◌, ◌++◌, length, drop, Ok, Option, Some, None, slice_set, slice_index_or, refl, sym, ap, ◌∙◌, subst, inl, inr, arith, Bool, length-drop, length-append, filter}
use Rattle.std.proofs.lemmas.Bool.{cases_eq, eqb-true, leb-true, leb-false, ltb-true, ltb-false, eqb-false, false_from_ne_true, le-leb, cases_Bool}
use Rattle.std.proofs.lemmas.List.{get_or-set_same, get_or-set_other, length-set, length-take}
use Rattle.express_words.specs.declared.refusal.Refusal.{Refusal}
use Rattle.express_words.specs.declared.refusal.Refusal.TheVariants as refusal
use Rattle.frame_rules.specs.Frames as frame
use Rattle.frame_rules.specs.Frames.{PlainFrame, PlainBody}
use Rattle.frame_rules.specs.Spelling.{spelling, IsFrame}
use Rattle.mailbox_rules.specs.Requests.{Register, Command, Registers, Settles, Line}
use Rattle.token_rules.specs.Tokens as token
use Rattle.token_rules.specs.Tokens.{Token, World, Lane, put, Oracle}
use Rattle.token_rules.specs.Run.{line_of, is_full, sends, sends_all, kept, comes}
use Rattle.token_rules.specs.Laws.{IsBusy}
use Rattle.token_rules.specs.Stages.{Stage, Asked, Noted, Heard, Fits, rest}
use Rattle.token_rules.proofs.Stages.{rank_small}
use Rattle.token_rules.specs.Invariant.{Coherent, Claims, state}
use Rattle.token_rules.proofs.Lists.{get_left, get_more}
use Rattle.token_rules.proofs.Cases.{submission_comes, issues_for, comes_is, comes_by, repeats}
use Rattle.lane_table.specs.Gates.{opening_gate, same_want}
use Rattle.lane_table.specs.declared.gate.Gate.TheVariants.{New, Same, Stale, Phase}
use Rattle.frame_rules.specs.Whole.{whole}
use Rattle.step_rules.specs.Leader as leader
use Rattle.step_rules.specs.Leader.{Leader, Row, Asked as Content, Registering, Idle, Waiting, Challenged, Auditing, Settling, Done, row, row_at, with_row, idle, want_in, want_of, phase_of, Turn, Link}
use Rattle.step_rules.specs.LeaderClients as steps
use Rattle.step_tokens.specs.LeaderRows.{bare_phase}
use Rattle.step_tokens.specs.ClientSteps.{IsLater}
use Rattle.run_rules.specs.Letters.{Letter, letter, ToClient, ToLeader, FrameWorld}
use Rattle.run_rules.specs.Run as frames
use Rattle.run_rules.specs.Book.{Book, request_of, wants, is_drawn, drawn_in}
use Rattle.run_rules.specs.Frames.{frame_with, frame_of, submission_at, command_body, address_of}
use Rattle.run_rules.specs.Follows.{Spelled, Carries, Pools, LeaderHolds, LeaderRow, LeaderRowAt, LeaderRows, IsCommand, AreCommands, IsIssued, AreIssued, Within, Sound, opening_in, Follows}
use Rattle.run_rules.proofs.ForeignLeaderCounts.{was_begun_set, not_foreign, awaited_set, awaited_more}
use Rattle.run_rules.proofs.ForeignCommands.{foreign_set, foreign_more}
use Rattle.run_rules.proofs.Basics.{whole_spelled, put_here, put_other, put_part, pools_append}
use Rattle.run_rules.proofs.Contents.{from_client_is, register_is, register_body, key_of}
use Rattle.run_rules.proofs.HelperRuns.{Came, same_wants}

-- ---- letters that change nobody

pub posts_follow : (b : Book) (f : FrameWorld) (w : World) (ts : List Token) (ls : List Letter)
    → Follows b f w → Pools b ts ls → Follows b (frames.posts f ls) (sends_all w ts)
posts_follow b f w ts ls h k = record {
  limit = h.limit;
  width = h.width;
  window = h.window;
  foreign = h.foreign;
  helper = h.helper;
  leader = h.leader;
  clients = h.clients;
  waiting = h.waiting;
  told = h.told;
  pool = pools_append b w.pool ts f.pool ls h.pool k;
  journal = h.journal;
  outcomes = h.outcomes;
}

-- ---- the leader's rows with one changed

pub rows_set : (b : Book) (rows : List Row) (lanes new : ℕ → Lane) (c : ℕ) (r : Row) (x : token.Row)
    → length rows ≡ b.settings.lanes → c < b.settings.lanes
    → LeaderRows b rows lanes → (new c).leader ≡ x → ((d : ℕ) → d ≢ c → (new d).leader ≡ (lanes d).leader)
    → LeaderRowAt b c (b.foreign c) r x → LeaderRows b (slice_set rows c r) new
rows_set b rows lanes new c r x count there h here others k d low = elim (cases_eq d c) [
  | inl s ↦
      let got : slice_index_or (slice_set rows c r) d idle ≡ r = ap (λ i. slice_index_or (slice_set rows c r) i idle) s ∙ get_or-set_same rows c r idle (omega (arith, count, there)) in
      let is : (new d).leader ≡ x = ap (λ i. (new i).leader) s ∙ here in
      rw (got, is) (subst (λ i. LeaderRowAt b i (b.foreign i) r x) (sym s) k)
  | inr n ↦
      let got : slice_index_or (slice_set rows c r) d idle ≡ slice_index_or rows d idle = get_or-set_other rows c d r idle n in
      rw (got, others d n) (h d low)
]

-- a row that settles, with one row changed and more commands
pub issued_set : (b : Book) (rows : List Row) (commands more : List Line) (c : ℕ) (r : Row)
    → length rows ≡ b.settings.lanes → c < b.settings.lanes → AreIssued b rows commands
    → (b.foreign c ≡ false → IsIssued more c r.serial r.stage)
    → ((d s : ℕ) (stage : leader.Stage) → d ≢ c → IsIssued commands d s stage → IsIssued more d s stage)
    → AreIssued b (slice_set rows c r) more
issued_set b rows commands more c r count there h k others d low hon = elim (cases_eq d c) [
  | inl s ↦
      let got : slice_index_or (slice_set rows c r) d idle ≡ r = ap (λ i. slice_index_or (slice_set rows c r) i idle) s ∙ get_or-set_same rows c r idle (omega (arith, count, there)) in
      let mine = k (ap b.foreign (sym s) ∙ hon) in
      rw got (subst (λ i. IsIssued more i r.serial r.stage) (sym s) mine)
  | inr n ↦
      let got : slice_index_or (slice_set rows c r) d idle ≡ slice_index_or rows d idle = get_or-set_other rows c d r idle n in
      rw got (others d _ _ n (h d low hon))
]

-- commands of other lanes
pub issued_more : (commands : List Line) (x : Line) (d s : ℕ) (stage : leader.Stage) → d ≢ x.lane
    → IsIssued commands d s stage → IsIssued (commands ++ x ∷ []) d s stage
issued_more commands x d s (Auditing number write share sigma opened) n h = λ k e. elim (get_more commands x k (line_of d s Settles) e) [
  | inl before ↦ h k before.1
  | inr last ↦ n (sym (ap (λ (y : Line). y.lane) last.1))
]
issued_more commands x d s (Settling number write own other) n h = (h.0, get_left commands (x ∷ []) h.0 _ h.1)
issued_more commands x d s Idle n h = tt
issued_more commands x d s (Waiting number asked) n h = tt
issued_more commands x d s (Challenged write kept) n h = tt
issued_more commands x d s (Done want kept) n h = tt

-- ---- the outstanding commands with one more

pub commands_more : (b : Book) (n : ℕ) (xs : List Line) (fs : List PlainFrame) (x : Line) (f : PlainFrame)
    → AreCommands b n xs fs
    → IsCommand b (b.foreign x.lane) (n + length xs) x f → IsFrame f → x.lane < b.settings.lanes
    → AreCommands b n (xs ++ x ∷ []) (fs ++ f ∷ [])
commands_more b n [] [] x f h k g low =
    let e : n + 0 ≡ n = omega arith in ((subst (λ m. IsCommand b (b.foreign x.lane) m x f) e k, g, low), tt)
commands_more b n (y ∷ xs) (v ∷ fs) x f h k g low =
    let e : n + suc (length xs) ≡ suc n + length xs = omega arith in
    (h.0, commands_more b (suc n) xs fs x f h.1 (subst (λ m. IsCommand b (b.foreign x.lane) m x f) e k) g low)
commands_more b n [] (v ∷ fs) x f h k g low = absurd h
commands_more b n (y ∷ xs) [] x f h k g low = absurd h

pub commands_length : (b : Book) (n : ℕ) (xs : List Line) (fs : List PlainFrame) → AreCommands b n xs fs
    → length fs ≡ length xs
commands_length b n [] [] h = refl
commands_length b n (y ∷ xs) (v ∷ fs) h = ap suc (commands_length b (suc n) xs fs h.1)
commands_length b n [] (v ∷ fs) h = absurd h
commands_length b n (y ∷ xs) [] h = absurd h

pub drop_more : {X : Type 0} (n : ℕ) (xs ys : List X) → n ≤ length xs → drop n (xs ++ ys) ≡ drop n xs ++ ys
drop_more zero xs ys h = refl
drop_more (suc n) [] ys h = absurd (omega arith)
drop_more (suc n) (x ∷ xs) ys h = drop_more n xs ys (omega arith)

-- ---- a command is issued

abbrev pub issued_with : Leader → ℕ → Row → ℕ → PlainFrame → Turn
issued_with a c r draws command = record {
  leader = record (with_row a c r) { outstanding = a.outstanding ++ command ∷ []; next = a.next + 1; draws = draws };
  answer = Link a.next command;
}

pub issues_follow : (b : Book) (f : FrameWorld) (w : World) (c s draws : ℕ) (x : token.Phase) (y : Command) (r : Row) (command : PlainFrame)
    → Follows b f w → b.foreign c ≡ false → c < b.settings.lanes → w.acknowledged ≤ length w.commands
    → LeaderRow b c r (token.row s x) → draws ≡ drawn_in (w.commands ++ line_of c s y ∷ [])
    → frame_of b (token.Ordered (length w.commands + 1) (line_of c s y)) ≡ Some command → IsFrame command
    → IsIssued (w.commands ++ line_of c s y ∷ []) c r.serial r.stage
    → Follows b (frames.to_leader f (issued_with f.leader c r draws command)) (issues_for w c s x y)
issues_follow b f w c s draws x y r command h hon low few hr drawn is fr settles =
    let line = line_of c s y in
    let lane : Lane = record (w.lanes c) { leader = token.row s x } in
    let new = put w.lanes c lane in
    let hh = h.helper in
    let la = h.leader in
    let number : suc w.acknowledged + length (drop w.acknowledged w.commands) ≡ length w.commands + 1 = let e = length-drop w.acknowledged w.commands in omega (arith, e, few) in
    let one : IsCommand b (b.foreign c) (suc w.acknowledged + length (drop w.acknowledged w.commands)) line command = rw (hon, number) is in
    let next = la.next in
    let more : length (w.commands ++ line ∷ []) ≡ length w.commands + 1 = length-append w.commands (line ∷ []) in
    record {
      limit = h.limit;
      width = h.width;
      window = h.window;
      foreign = h.foreign;
      helper = record {
        settings = hh.settings;
        seed = hh.seed;
        count = hh.count;
        rows = λ d there. rw (put_part (λ l. l.helper) w.lanes c lane refl d) (hh.rows d there);
        boxes = hh.boxes;
        draws = hh.draws;
        number = hh.number;
        kept = hh.kept;
        window = hh.window;
        most = hh.most;
        begun = hh.begun;
      };
      leader = record {
        settings = la.settings;
        seed = la.seed;
        count = length-set f.leader.rows c r ∙ la.count;
        rows = rows_set b f.leader.rows w.lanes new c r (token.row s x) la.count low la.rows
            (ap (λ l. l.leader) (put_here w.lanes c lane)) (λ d n. ap (λ l. l.leader) (put_other w.lanes c lane d n))
            (subst (λ t. LeaderRowAt b c t r (token.row s x)) (sym hon) hr);
        boxes = la.boxes;
        draws = drawn;
        next = ap (λ n. n + 1) next ∙ ap (λ n. n + 1) (sym more);
        outstanding = rw (drop_more w.acknowledged w.commands (line ∷ []) few) (commands_more b (suc w.acknowledged) (drop w.acknowledged w.commands) f.leader.outstanding line command la.outstanding one fr low);
        issued = issued_set b f.leader.rows w.commands (w.commands ++ line ∷ []) c r la.count low la.issued (λ t. settles)
            (λ d n stage other k. issued_more w.commands line d n stage other k);
        foreign = foreign_more b (slice_set f.leader.rows c r) w.commands line hon (foreign_set b f.leader.rows w.commands c r hon la.foreign);
        begun = was_begun_set b f.leader.rows w.acknowledged c r la.count low la.begun (λ t. absurd (not_foreign b c hon t));
        awaited = awaited_more b (slice_set f.leader.rows c r) w.acknowledged w.commands line hon (awaited_set b f.leader.rows w.acknowledged w.acknowledged c r w.commands hon (omega arith) la.awaited);
      };
      clients = λ d. rw (put_part (λ l. l.step) w.lanes c lane refl d, put_part (λ l. l.serial) w.lanes c lane refl d) (h.clients d);
      waiting = h.waiting;
      told = h.told;
      pool = pools_append b w.pool _ f.pool _ h.pool (rw hon (record { lane = low; frame = command; is = is; spelled = record { at = refl; bytes = refl; is_frame = fr } }), tt);
      journal = h.journal;
      outcomes = h.outcomes;
    }

-- ---- what is answered

pub later_frame : (b : Book) (c s : ℕ) (r : Refusal) → Came b c s → IsLater r
    → IsFrame (frame_with c s 0 (frame.Refused r))
    → Pools b (token.Later c s ∷ []) (letter (ToClient c) (spelling (frame_with c s 0 (frame.Refused r))) ∷ [])
later_frame b c s r k l h =
    (record { refusal = r; later = l; spelled = record { at = refl; bytes = refl; is_frame = h } }, tt)

pub stale_frame : (b : Book) (c s n : ℕ) → Came b c s → n < 2 ^ 32
    → IsFrame (frame_with c s 0 (frame.Refused (refusal.Stale n)))
stale_frame b c s n k low =
    record { lane = k.lane; serial = k.serial; addressed = k.first; link = omega arith; linked = refl; body = low }

pub again_frame : (b : Book) (c s n : ℕ) → Came b c s → n < 2 ^ 64
    → IsFrame (frame_with c s 0 (frame.Refused (refusal.Again n)))
again_frame b c s n k low =
    record { lane = k.lane; serial = k.serial; addressed = k.first; link = omega arith; linked = refl; body = low }

-- ---- a submission

pub row_of : (b : Book) (f : FrameWorld) (w : World) (c : ℕ) → Follows b f w → b.foreign c ≡ false
    → c < b.settings.lanes
    → LeaderRow b c (row_at f.leader c) (w.lanes c).leader
row_of b f w c h hon low =
    subst (λ x. LeaderRowAt b c x (row_at f.leader c) (w.lanes c).leader) hon (h.leader.rows c low)

-- the row's request again: its kept token, or nothing while a command of it is outstanding
pub again_follows : (b : Book) (f : FrameWorld) (w : World) (c s : ℕ) (body : PlainBody) (stage : leader.Stage)
    → Follows b f w → Came b c s → LeaderHolds b c s stage
    → Follows b (frames.to_leader f (steps.again_at f.leader (frame_with c s 0 body) stage)) (repeats w c s (bare_phase stage))
unfolding steps.again_at frame_of
again_follows b f w c s body Idle h k holds = let first = k.first in absurd (omega (arith, first, holds))
again_follows b f w c s body (Waiting number asked) h k holds = posts_follow b f w [] [] h tt
again_follows b f w c s body (Auditing number write share sigma opened) h k holds =
    posts_follow b f w [] [] h tt
again_follows b f w c s body (Settling number write own other) h k holds = posts_follow b f w [] [] h tt
again_follows b f w c s body (Challenged write kept) h k holds =
    posts_follow b f w _ _ h (record { lane = k.there; frame = frame_with c s 0 kept; is = ap (λ x. Some (frame_with c s 0 x)) (sym holds.1); spelled = record { at = refl; bytes = refl; is_frame = holds.2 } }, tt)
again_follows b f w c s body (Done want kept) h k holds =
    posts_follow b f w _ _ h (record { lane = k.there; frame = frame_with c s 0 kept; is = ap (λ x. Some (frame_with c s 0 x)) (sym holds.0); spelled = record { at = refl; bytes = refl; is_frame = holds.1 } }, tt)

-- no request of the lane is on its way when a new one comes

rest_free : (n : ℕ) → IsBusy (rest n) → ⊥
rest_free zero h = h
rest_free (suc n) h = h

is_over : (lane : Lane) (x : Stage) → Fits lane x → lane.leader.serial < lane.serial
    → IsBusy lane.leader.phase → ⊥
is_over lane Asked f l h = rest_free _ (rw f.leader_phase at h)
is_over lane Noted f l h = rest_free _ (rw f.leader_phase at h)
is_over lane Heard f l h = rest_free _ (rw f.leader_phase at h)
is_over lane x f l h = let e = f.leader_serial in omega (arith, e, l)

pub not_busy : (w : World) (p : ℕ → Stage) (c s : ℕ) (y : Command) → Coherent w p
    → Claims (state w p) (token.Submission c s y) → (w.lanes c).leader.serial < s
    → IsBusy (w.lanes c).leader.phase → ⊥
not_busy w p c s y ok claim l =
    let far_enough = claim.1.0 in let r = rank_small (p c) in is_over (w.lanes c) (p c) (ok.fits c claim.0) (omega (arith, l, far_enough, r))

-- the window is full at both
pub full_is : (b : Book) (f : FrameWorld) (w : World) → Follows b f w → w.acknowledged ≤ length w.commands
    → nat_le f.leader.settings.window (length f.leader.outstanding) ≡ is_full w
full_is b f w h few =
    let n = commands_length b _ _ _ h.leader.outstanding ∙ length-drop w.acknowledged w.commands in
    let size : f.leader.settings.window ≡ w.window = ap (λ s. s.window) h.leader.settings ∙ sym h.window in
    elim (cases_Bool (is_full w)) [
      | inl t ↦ let l = leb-true (w.acknowledged + w.window) (length w.commands) t in le-leb _ _ (omega (arith, n, size, l, few)) ∙ sym t
      | inr t ↦ let l = leb-false (w.acknowledged + w.window) (length w.commands) t in false_from_ne_true _ (λ u. let m = leb-true _ _ u in omega (arith, n, size, l, few, m)) ∙ sym t
    ]

module _ (b : Book) (f : FrameWorld) (w : World) (p : ℕ → Stage) (c s : ℕ) (y : Command) (body : PlainBody) (asked : Content) (named : Option steps.Named)
    (sound : Sound b) (within : Within b w) (ok : Coherent w p) (claim : Claims (state w p) (token.Submission c s y))
    (h : Follows b f w) (hon : b.foreign c ≡ false) (came : Came b c s) (want_is : want_in asked ≡ wants (request_of b c s))
    (names : (turn : Turn) → (w.lanes c).leader.serial < s → steps.if_named f.leader (frame_with c s 0 body) named turn ≡ turn)
    (issued : Within b (issues_for w c s token.Waiting y) → Follows b (frames.to_leader f (steps.issued_for f.leader (frame_with c s 0 body) asked)) (issues_for w c s token.Waiting y)) where
  abbrev pub g : PlainFrame
  g = frame_with c s 0 body

  hr : LeaderRow b c (row_at f.leader c) (w.lanes c).leader
  hr = row_of b f w c h hon came.there

  few : w.acknowledged ≤ length w.commands
  few = let k = ok.acknowledged in let l = ok.carried in omega (arith, k, l)

  issued_few : length w.commands ≤ length b.commands
  issued_few = let t = ap length within.commands ∙ length-take (length w.commands) b.commands in omega (arith, t)

  oldest_small : steps.oldest f.leader < 2 ^ 64
  oldest_small = let e = h.leader.next in let n = sound.numbers in let small = issued_few in omega (arith, e, n, small)

  later : (r : Refusal) → IsLater r → IsFrame (frame_with c s 0 (frame.Refused r))
      → Follows b (frames.to_leader f (leader.refuses f.leader g r)) (sends w (token.Later c s))
  later r l k = posts_follow b f w _ _ h (later_frame b c s r came l k)

  room : Within b (cond (is_full w) (sends w (token.Later c s)) (issues_for w c s token.Waiting y))
      → Follows b (frames.to_leader f (steps.if_room f.leader g (steps.issued_for f.leader g asked))) (cond (is_full w) (sends w (token.Later c s)) (issues_for w c s token.Waiting y))
  room after =
      let e = h.leader.next in
      let n = sound.numbers in
      let small = issued_few in
      let numbers : nat_lt (2 ^ 64 - 65) f.leader.next ≡ false = false_from_ne_true _ (λ t. let l = ltb-true _ _ t in omega (arith, e, n, small, l)) in
      let full = full_is b f w h few in
      rw (numbers, full) (at_test (is_full w) after)
    where
      at_test : (t : Bool) → Within b (cond t (sends w (token.Later c s)) (issues_for w c s token.Waiting y))
          → Follows b (frames.to_leader f (cond t (leader.refuses f.leader g (refusal.Again (steps.oldest f.leader))) (steps.issued_for f.leader g asked)))
          (cond t (sends w (token.Later c s)) (issues_for w c s token.Waiting y))
      at_test true there = later (refusal.Again (steps.oldest f.leader)) tt (again_frame b c s _ came oldest_small)
      at_test false there = issued there

  named_room : (w.lanes c).leader.serial < s → Within b (cond (is_full w) (sends w (token.Later c s)) (issues_for w c s token.Waiting y))
      → Follows b (frames.to_leader f (steps.if_named f.leader g named (steps.if_room f.leader g (steps.issued_for f.leader g asked)))) (cond (is_full w) (sends w (token.Later c s)) (issues_for w c s token.Waiting y))
  named_room new after = subst (λ t. Follows b (frames.to_leader f t) (cond (is_full w) (sends w (token.Later c s)) (issues_for w c s token.Waiting y))) (sym (names _ new)) (room after)

  fresh : (stage : leader.Stage) → (w.lanes c).leader.serial < s → (IsBusy (bare_phase stage) → ⊥)
      → Within b (cond (is_full w) (sends w (token.Later c s)) (issues_for w c s token.Waiting y))
      → Follows b (frames.to_leader f (steps.new_at f.leader g asked named stage)) (cond (is_full w) (sends w (token.Later c s)) (issues_for w c s token.Waiting y))
  unfolding steps.new_at
  fresh (Waiting number other) new free after = absurd (free tt)
  fresh (Auditing number write share sigma opened) new free after = absurd (free tt)
  fresh (Settling number write own other) new free after = absurd (free tt)
  fresh Idle new free after = named_room new after
  fresh (Challenged write kept) new free after = named_room new after
  fresh (Done want kept) new free after = named_room new after

  cases : (less same wanted : Bool) → (less ≡ false → same ≡ false → (w.lanes c).leader.serial < s)
      → (same ≡ true → s ≡ (row_at f.leader c).serial) → (same ≡ true → wanted ≡ true)
      → Within b (cond less (sends w (token.Later c s)) (cond same (repeats w c s (bare_phase (row_at f.leader c).stage)) (cond (is_full w) (sends w (token.Later c s)) (issues_for w c s token.Waiting y))))
      → Follows b (frames.to_leader f (steps.submission_at f.leader g asked named (cond less (Stale (row_at f.leader c).serial) (cond same (cond wanted Same (Phase (phase_of (row_at f.leader c).stage))) New))))
      (cond less (sends w (token.Later c s)) (cond same (repeats w c s (bare_phase (row_at f.leader c).stage)) (cond (is_full w) (sends w (token.Later c s)) (issues_for w c s token.Waiting y))))
  unfolding steps.submission_at
  cases true same wanted new is one after = later (refusal.Stale (row_at f.leader c).serial) tt (stale_frame b c s _ came hr.small)
  cases false true true new is one after =
      again_follows b f w c s body (row_at f.leader c).stage h came (subst (λ n. LeaderHolds b c n (row_at f.leader c).stage) (sym (is refl)) hr.holds)
  cases false true false new is one after = absurd (cc (one refl))
  cases false false wanted new is one after =
      fresh (row_at f.leader c).stage (new refl refl) (λ busy. not_busy w p c s y ok claim (new refl refl) (subst (λ x. IsBusy x.phase) hr.bare busy)) after

  pub named_follows : Within b (submission_comes w c s y)
      → Follows b (frames.to_leader f (steps.on_submission f.leader g asked named)) (submission_comes w c s y)
  unfolding steps.on_submission opening_gate submission_comes
  named_follows =
      let r = row_at f.leader c in
      let first = came.first in
      let there : nat_le f.leader.settings.lanes c ≡ false = let e = h.leader.settings in let low = came.there in false_from_ne_true _ (λ t. let l = leb-true _ _ t in omega (arith, ap (λ s. s.lanes) e, low, l)) in
      let serial : r.serial ≡ (w.lanes c).leader.serial = ap (λ x. x.serial) hr.bare in
      let phase : bare_phase r.stage ≡ (w.lanes c).leader.phase = ap (λ x. x.phase) hr.bare in
      let wanted : s ≡ r.serial → same_want (want_in asked) (want_of r.stage) ≡ true = λ same.
      same_wants _ _ (want_is ∙ ap (λ n. wants (request_of b c n)) same ∙ sym (hr.want (omega (arith, first, same)))) in
      rw (there, sym serial, sym phase)
      (cases (nat_lt s r.serial) (nat_eq s r.serial) (same_want (want_in asked) (want_of r.stage))
      (λ t u. let l = ltb-false _ _ t in let n = eqb-false _ _ u in omega (arith, l, n, serial)) (λ t. eqb-true s r.serial t) (λ t. wanted (eqb-true s r.serial t)))

-- a submission that names no box
pub submission_follows : (b : Book) (f : FrameWorld) (w : World) (p : ℕ → Stage) (c s : ℕ) (y : Command) (body : PlainBody) (asked : Content) → Sound b → Within b w → Coherent w p → Claims (state w p) (token.Submission c s y) → Follows b f w → b.foreign c ≡ false → Came b c s → want_in asked ≡ wants (request_of b c s)
    → (Within b (issues_for w c s token.Waiting y) → Follows b (frames.to_leader f (steps.issued_for f.leader (frame_with c s 0 body) asked)) (issues_for w c s token.Waiting y))
    → Within b (submission_comes w c s y)
    → Follows b (frames.to_leader f (steps.on_submission f.leader (frame_with c s 0 body) asked None)) (submission_comes w c s y)
unfolding steps.if_named
submission_follows b f w p c s y body asked sound within ok claim h hon came want_is issued =
    named_follows b f w p c s y body asked None sound within ok claim h hon came want_is (λ turn new. refl) issued

-- ---- the submission of a register

ordered_is : (b : Book) (c s n address : ℕ) → request_of b c s ≡ Some (Register address)
    → frame_of b (token.Ordered n (line_of c s Registers)) ≡ Some (frame_with c s n (frame.LinkRegister address))
unfolding frame_of command_body
ordered_is b c s n address q = ap (λ r. Some (frame_with c s n (frame.LinkRegister (address_of r)))) q

register_turn : (f : FrameWorld) (c s address : ℕ) (key : List ℕ) (bytes : List ℕ)
    → whole bytes ≡ Ok (frame_with c s 0 (frame.Register address key))
    → frames.comes f ToLeader bytes ≡ frames.to_leader f (steps.on_submission f.leader (frame_with c s 0 (frame.Register address key)) (Registering address key) None)
unfolding frames.comes steps.on_whole steps.by_kind
register_turn f c s address key bytes e = rw e refl

drawn_same : (xs : List Line) (c s : ℕ) → drawn_in (xs ++ line_of c s Registers ∷ []) ≡ drawn_in xs
drawn_same [] c s = refl
drawn_same (x ∷ xs) c s = by_first (is_drawn x) (drawn_same xs c s)
  where
    by_first : (t : Bool) → drawn_in (xs ++ line_of c s Registers ∷ []) ≡ drawn_in xs
        → length (cond t (x ∷ filter (λ x. is_drawn x) (xs ++ line_of c s Registers ∷ [])) (filter (λ x. is_drawn x) (xs ++ line_of c s Registers ∷ []))) ≡ length (cond t (x ∷ filter (λ x. is_drawn x) xs) (filter (λ x. is_drawn x) xs))
    by_first true e = ap suc e
    by_first false e = e

register_issued : (b : Book) (f : FrameWorld) (w : World) (c s address : ℕ) (key : List ℕ) → Sound b
    → Within b w → w.acknowledged ≤ length w.commands → Follows b f w → b.foreign c ≡ false → Came b c s
    → address < 2 ^ 128 → submission_at b c s ≡ Some (frame.Register address key)
    → request_of b c s ≡ Some (Register address)
    → Follows b (frames.to_leader f (steps.issued_for f.leader (frame_with c s 0 (frame.Register address key)) (Registering address key))) (issues_for w c s token.Waiting Registers)
unfolding steps.issued_for
register_issued b f w c s address key sound within few h hon k small e q =
    let a = f.leader in
    let next = h.leader.next in
    let n = sound.numbers in
    let t = ap length within.commands ∙ length-take (length w.commands) b.commands in
    let command = frame_with c s a.next (frame.LinkRegister address) in
    issues_follow b f w c s a.draws token.Waiting Registers (row s (Waiting a.next (Registering address key))) command h hon k.there few
    (record { bare = refl; small = k.serial; want = λ pos. sym (ap wants q); holds = e })
    (h.leader.draws ∙ sym (drawn_same w.commands c s))
    (ordered next)
    (record { lane = k.lane; serial = k.serial; addressed = k.first; link = omega (arith, next, n, t); linked = omega (arith, next); body = small })
    tt
  where
    ordered : f.leader.next ≡ length w.commands + 1
        → frame_of b (token.Ordered (length w.commands + 1) (line_of c s Registers)) ≡ Some (frame_with c s f.leader.next (frame.LinkRegister address))
    ordered next = ordered_is b c s (length w.commands + 1) address q ∙ ap (λ n. Some (frame_with c s n (frame.LinkRegister address))) (sym next)

pub register_comes : (b : Book) (o : Oracle) (f : FrameWorld) (w : World) (p : ℕ → Stage) (c s address : ℕ) (key : List ℕ) (y : Command) (l : Letter) → Sound b → Within b w → Within b (comes o w (token.Submission c s y)) → Coherent w p
    → Claims (state w p) (token.Submission c s y) → Follows b f w → b.foreign c ≡ false
    → c < b.settings.lanes → y ≡ Registers
    → submission_at b c s ≡ Some (frame.Register address key)
    → Spelled l ToLeader (frame_with c s 0 (frame.Register address key))
    → Follows b (frames.comes f l.to l.bytes) (comes o w (token.Submission c s y))
unfolding comes_by
register_comes b o f w p c s address key y l sound within after ok claim h hon low opens e k =
    let g = frame_with c s 0 (frame.Register address key) in
    let came : Came b c s = record { there = low; lane = k.is_frame.lane; serial = k.is_frame.serial; first = k.is_frame.addressed } in
    let q = register_is b c s address key e in
    let few : w.acknowledged ≤ length w.commands = let i = ok.acknowledged in let j = ok.carried in omega (arith, i, j) in
    let issued = register_issued b f w c s address key sound within few h hon came k.is_frame.body.0 e q in
    let done = submission_follows b f w p c s y (frame.Register address key) (Registering address key) sound within ok claim h hon came (sym (ap wants q)) (λ there. subst (λ y. Follows b (frames.to_leader f (steps.issued_for f.leader g (Registering address key))) (issues_for w c s token.Waiting y)) (sym opens) issued) (subst (Within b) (comes_is o w (token.Submission c s y)) after) in
    rw (k.at, k.bytes, register_turn f c s address key _ (whole_spelled g k.is_frame), comes_is o w (token.Submission c s y)) done

-- a register's submission comes to the leader
pub submission_comes_register : (b : Book) (o : Oracle) (f : FrameWorld) (w : World) (p : ℕ → Stage) (c s address : ℕ) (y : Command) (l : Letter) → Sound b → Within b w → Within b (comes o w (token.Submission c s y)) → Coherent w p
    → Claims (state w p) (token.Submission c s y) → Follows b f w → b.foreign c ≡ false
    → request_of b c s ≡ Some (Register address)
    → Carries b (token.Submission c s y) l
    → Follows b (frames.comes f l.to l.bytes) (comes o w (token.Submission c s y))
unfolding frame_of
submission_comes_register b o f w p c s address y l sound within after ok claim h hon q k =
    let m = from_client_is c s (submission_at b c s) k.1.frame k.1.is in
    let d = register_body b c s address m.body q m.is in
    let is : k.1.frame ≡ frame_with c s 0 (frame.Register address (key_of b c s)) = sym m.frame ∙ ap (frame_with c s 0) d in
    register_comes b o f w p c s address (key_of b c s) y l sound within after ok claim h hon k.1.lane (k.0 ∙ ap opening_in q) (m.is ∙ ap Some d) (subst (Spelled l ToLeader) is k.1.spelled)
