-- No two first commands of requests have one lane and serial: a client's stand in order, and the leader issues a foreign
-- lane's for a later serial than its row's alone. So no two reads have one stream.
use Rattle.std.proofs.Common.{◌≡◌, ◌∙◌, ◌<◌, ◌+◌, ◌-◌, ◌^◌, ℕ, Bool, true, false, nat_eq, nat_lt, ◌&&◌, List, [], ◌∷◌, ◌++◌, length, Some, None, Ok, slice_get, refl, sym, ap, subst, inl, inr, arith}
use Rattle.std.proofs.lemmas.Bool.{cases_Bool, cond_both}
use Rattle.std.proofs.lemmas.Option.{slice_get-map, slice_get_within}
use Rattle.std.specs.Option.{option_map}
use Rattle.dpf_rules.specs.Expansion.{read_stream}
use Rattle.frame_rules.specs.Frames as frame
use Rattle.frame_rules.specs.Frames.{PlainFrame, PlainBody}
use Rattle.frame_rules.specs.Whole.{whole}
use Rattle.mailbox_rules.specs.Requests.{Entry, Line, Request, Settles, lines_of}
use Rattle.step_rules.specs.Leader as leader
use Rattle.step_rules.specs.LeaderClients as steps
use Rattle.token_rules.specs.Laws.{turn}
use Rattle.token_rules.specs.Rows.{Arrival, Next, Kept, Passed, ClientDoes, ClientHears, Finishes, GoesOn, LeaderIssues, LeaderKept, LeaderLater, LeaderNothing, LeaderSays, Stays, arrival_of, client_does, reply_step}
use Rattle.token_rules.specs.Run as tokens
use Rattle.token_rules.specs.Run.{acknowledges, acted, carries_next, client_hears, client_moves, comes, command_comes, foreign_acks, foreign_at_leader, foreign_frame_comes, foreign_reply_comes, goes_on, has_settle, injected_comes, is_full, is_refused, leader_says, line_of, notes, reply_applied, reply_comes, with_leader}
use Rattle.token_rules.specs.Tokens as token
use Rattle.token_rules.specs.Tokens.{Act, Oracle, Phase, Row, Token, World, oracle_of}
use Rattle.token_rules.proofs.Lists.{get_more, get_taken}
use Rattle.run_rules.specs.Letters.{FrameWorld, Letter}
use Rattle.run_rules.specs.Book.{Book}
use Rattle.run_rules.specs.Follows.{Carries, Follows, ForeignLeaderRow, LeaderRowAt}
use Rattle.run_rules.specs.Known.{IsWhole, Known}
use Rattle.run_rules.specs.Acts.{AreTaken, Both, OutsideAt, Taken, act_of, both_come, ended_of, history_of, issues_of, taken_of}
use Rattle.run_rules.specs.EveryEnd.{AtEveryEnd}
use Rattle.run_rules.specs.History.{frame_run, token_run}
use Rattle.run_rules.specs.Plain.{IsAnswer, IsHistory, JournalInOrder}
use Rattle.run_rules.proofs.Basics.{whole_spelled}
use Rattle.run_rules.proofs.EveryEnd.{history_at_every_end, order_at_every_end}
use Rattle.run_rules.proofs.ForeignFollows.{Unique, foreign_runs_agree, stays, takes}
use Rattle.run_rules.proofs.ForeignLeaderFirst.{one_more}
use Rattle.run_rules.proofs.ForeignLeaderTaken.{MayIssue, command_for, issued_for_frame}
use Rattle.run_rules.proofs.WholeForeign.{run_unique, whole as whole_run, world_is}
use Rattle.run_hiding.specs.Laws.{MasksApart}

-- the first command of a foreign lane's request stands once
abbrev FirstOnce : (ℕ → Bool) → List Line → Type 0
FirstOnce foreign xs = (i k : ℕ) (x y : Line) → slice_get xs i ≡ Some x → slice_get xs k ≡ Some y → foreign x.lane ≡ true
    → turn x.command ≡ 0 → turn y.command ≡ 0 → x.lane ≡ y.lane → x.serial ≡ y.serial → i ≡ k

more_once : (foreign : ℕ → Bool) (xs : List Line) (z : Line) → FirstOnce foreign xs
    → ((i : ℕ) (x : Line) → slice_get xs i ≡ Some x → foreign z.lane ≡ true → turn z.command ≡ 0 → x.lane ≡ z.lane → x.serial ≡ z.serial → ⊥)
    → FirstOnce foreign (xs ++ z ∷ [])
more_once foreign xs z h new i k x y e d is first last lane serial = elim (get_more xs z i x e) [
  | inl m ↦ elim (get_more xs z k y d) [
    | inl n ↦ h i k x y m.1 n.1 is first last lane serial
    | inr n ↦
        let there : x.lane ≡ z.lane = lane ∙ ap (λ (l : Line). l.lane) (sym n.1) in
        absurd (new i x m.1 (ap foreign (sym there) ∙ is) (ap (λ (l : Line). turn l.command) n.1 ∙ last) there (serial ∙ ap (λ (l : Line). l.serial) (sym n.1)))
  ]
  | inr m ↦ elim (get_more xs z k y d) [
    | inl n ↦
        let there : z.lane ≡ x.lane = ap (λ (l : Line). l.lane) m.1 in
        absurd (new k y n.1 (ap foreign there ∙ is) (ap (λ (l : Line). turn l.command) m.1 ∙ first) (sym lane ∙ sym there) (sym serial ∙ ap (λ (l : Line). l.serial) (sym m.1)))
    | inr n ↦ m.0 ∙ sym n.0
  ]
]

-- ---- what a token adds to the commands

-- one more command at most, which isn't the first of a foreign lane's request
data Grown (foreign : ℕ → Bool) (xs ys : List Line) : Type 0 where
  Alike : ys ≡ xs → Grown foreign xs ys
  More : (x : Line) → ys ≡ xs ++ x ∷ [] → (foreign x.lane ≡ true → turn x.command ≡ 0 → ⊥) → Grown foreign xs ys

grown_once : (foreign : ℕ → Bool) (xs ys : List Line) → Grown foreign xs ys → FirstOnce foreign xs → FirstOnce foreign ys
grown_once foreign xs ys (Alike e) h = subst (FirstOnce foreign) (sym e) h
grown_once foreign xs ys (More x e never) h =
    subst (FirstOnce foreign) (sym e) (more_once foreign xs x h (λ i y is other first lane serial. never other first))

abbrev Grows : World → World → Type 0
Grows w v = Grown w.foreign w.commands v.commands

said : (w u : World) (c s : ℕ) (x : Phase) (says : LeaderSays) → u.commands ≡ w.commands → w.foreign c ≡ false → Grows w (leader_says u c s x says)
unfolding leader_says
said w u c s x LeaderNothing e honest = Alike e
said w u c s x LeaderLater e honest = Alike e
said w u c s x LeaderKept e honest = Alike e
said w u c s x (LeaderIssues y) e honest = More (line_of c s y) (ap (λ xs. xs ++ line_of c s y ∷ []) e) (λ is first. absurd (let never : true ≡ false = sym is ∙ honest in cc never))

ordered : (o : Oracle) (w : World) (n : ℕ) (x : Line) (a : Arrival) → Grows w (command_comes o w n x a)
unfolding command_comes carries_next
ordered o w n x Next = cond_both {A = World} (w.foreign x.lane) _ _ (λ v. Grows w v) (λ e. Alike refl) (λ e. Alike refl)
ordered o w n x Kept = Alike refl
ordered o w n x Passed = Alike refl

replied : (o : Oracle) (w : World) (n : ℕ) (x : Line) → Grows w (reply_comes o w n x)
unfolding reply_comes reply_applied foreign_reply_comes foreign_acks
replied o w n x =
    cond_both {A = World} (nat_eq n (w.acknowledged + 1) && nat_lt w.acknowledged (length w.commands)) _ _ (λ v. Grows w v)
    (λ e. cond_both {A = World} (w.foreign x.lane) _ _ (λ v. Grows w v)
    (λ f. cond_both {A = World} (o w.moment).fits _ _ (λ v. Grows w v)
    (λ g. cond_both {A = World} (has_settle x.command (o w.moment).settles) _ _ (λ v. Grows w v)
    (λ i. More (line_of x.lane x.serial Settles) refl (λ is first. absurd (omega (arith, first)))) (λ i. Alike refl))
    (λ g. Alike refl))
    (λ f. said w (with_leader (acknowledges w) x.lane (reply_step x.serial x.command).row) x.lane x.serial _ (reply_step x.serial x.command).says refl f))
    (λ e. Alike refl)

went : (w : World) (c : ℕ) (rs : List Request) → (goes_on w c rs).commands ≡ w.commands
unfolding goes_on
went w c [] = refl
went w c (r ∷ rest) = cond_both {A = World} (is_refused w c r) _ _ (λ v. v.commands ≡ w.commands) (λ e. went (notes w c _) c rest) (λ e. refl)

moved : (w : World) (c s : ℕ) (does : ClientDoes) → (client_moves w c s does).commands ≡ w.commands
unfolding client_moves
moved w c s Stays = refl
moved w c s GoesOn = refl
moved w c s Finishes = went (notes w c _) c (w.requests c).waiting

heard : (w : World) (c s : ℕ) (h : ClientHears) → Grows w (client_hears w c s h)
unfolding client_hears
heard w c s h = cond_both {A = World} (nat_eq s (w.lanes c).serial) _ _ (λ v. Grows w v) (λ e. Alike (moved w c s (client_does h (w.lanes c).step))) (λ e. Alike refl)

-- ---- a foreign lane's frame at the leader

-- it is answered alone
answered : (w : World) (c : ℕ) (act : Act) → act.issues ≡ None → (foreign_frame_comes w true c act).commands ≡ w.commands
unfolding foreign_frame_comes foreign_at_leader
answered w c act none = rw none (cond_both {A = World} (is_full w) _ _ (λ v. v.commands ≡ w.commands) (λ e. refl) (λ e. refl))

outside : (o : Oracle) (w : World) (c : ℕ) → (o w.moment).issues ≡ None → (injected_comes o w true (Some c)).commands ≡ w.commands
unfolding injected_comes
outside o w c none = cond_both {A = World} (w.foreign c) _ _ (λ v. v.commands ≡ w.commands) (λ e. answered (acted w) c (o w.moment) none) (λ e. refl)

module _ (b : Book) (f : FrameWorld) (v w : World) (c : ℕ) (l : Letter) (known : Known b v w) (h : Follows b f w) (foreign : b.foreign c ≡ true)
    (k : Carries b (token.Injected true (Some c)) l) (once : FirstOnce b.foreign w.commands) where
  abbrev o : Oracle
  o n = act_of f (token.Injected true (Some c)) l

  g : PlainFrame
  g = k.1.0

  -- a first command is issued for a later serial than the row's
  later : (body : PlainBody) (r : leader.Row) (s : ℕ) → MayIssue r s body → turn (command_for body) ≡ 0 → r.serial < s
  later (frame.Register address key) r s may first = may
  later (frame.Write root part) r s may first = may
  later (frame.Read n held) r s may first = may
  later (frame.Retire n held) r s may first = may
  later (frame.Proof share) r s may first = absurd (omega (arith, first))
  later body r s may first = absurd may

  at_leader : FirstOnce b.foreign (comes o w (token.Injected true (Some c))).commands
  unfolding comes g
  at_leader = by_answer (steps.on_client f.leader l.bytes).answer refl
    where
      lane : g.lane ≡ c
      lane = k.1.1.1.1.0

      here : b.foreign g.lane ≡ true
      here = ap b.foreign lane ∙ foreign

      read : whole l.bytes ≡ Ok g
      read = ap whole k.1.1.1.0 ∙ whole_spelled g k.1.1.0

      none : (issues_of (steps.on_client f.leader l.bytes).answer ≡ None) → FirstOnce b.foreign (injected_comes o w true (Some c)).commands
      none e = subst (FirstOnce b.foreign) (sym (outside o w c e)) once

      by_answer : (a : leader.Answer) → (steps.on_client f.leader l.bytes).answer ≡ a → FirstOnce b.foreign (injected_comes o w true (Some c)).commands
      by_answer (leader.Reply reply) e = none (ap issues_of e)
      by_answer (leader.StillWaiting n) e = none (ap issues_of e)
      by_answer (leader.Link n command) e =
          let one = issued_for_frame f.leader l.bytes g n command read e in
          let line = line_of g.lane g.serial (command_for g.body) in
          let more : (comes (λ m. act_of f (token.Injected true (Some c)) l) w (token.Injected true (Some c))).commands ≡ w.commands ++ line ∷ [] =
          subst (λ d. (comes (λ m. act_of f (token.Injected true (Some d)) l) w (token.Injected true (Some d))).commands ≡ w.commands ++ line ∷ []) lane
          (one_more b f v w g command n l.bytes known h here read e l refl) in
          subst (FirstOnce b.foreign) (sym more) (more_once b.foreign w.commands line once (λ i x is other first same serial.
          let small = later g.body (leader.row_at f.leader g.lane) g.serial one.may first in
          let there = (h.leader.foreign.there i x is (ap b.foreign same ∙ here)).1 in
          let row : (leader.row_at f.leader x.lane).serial ≡ (leader.row_at f.leader g.lane).serial = ap (λ d. (leader.row_at f.leader d).serial) same in
          omega (arith, small, there, row, serial)))

-- ---- any token

module _ (b : Book) (f : FrameWorld) (v w : World) (i : ℕ) (l : Letter) (known : Known b v w) (h : Follows b f w) where
  same : (foreign : ℕ → Bool) → w.foreign ≡ foreign → (xs ys : List Line) → Grown w.foreign xs ys → FirstOnce foreign xs → FirstOnce foreign ys
  same foreign e xs ys grows once =
      subst (λ g. FirstOnce g ys) e (grown_once w.foreign xs ys grows (subst (λ g. FirstOnce g xs) (sym e) once))

  pub first_once : (t : Token) → slice_get w.pool i ≡ Some t → Carries b t l → OutsideAt b.foreign t l → FirstOnce b.foreign w.commands
      → FirstOnce b.foreign (comes (λ n. act_of f t l) w t).commands
  unfolding comes injected_comes foreign_frame_comes
  first_once (token.Injected true (Some c)) at k out once = at_leader b f v w c l known h out.names k once
  first_once (token.Injected true None) at k out once = once
  first_once (token.Injected false None) at k out once = once
  first_once (token.Injected false (Some c)) at k out once =
      same b.foreign h.foreign _ _ (cond_both {A = World} (w.foreign c) _ _ (λ v. Grows w v) (λ e. Alike refl) (λ e. Alike refl)) once
  first_once (token.Ordered n x) at k out once = same b.foreign h.foreign _ _ (ordered (λ m. act_of f (token.Ordered n x) l) w n x (arrival_of w.window w.carried n)) once
  first_once (token.Replied n x) at k out once = same b.foreign h.foreign _ _ (replied (λ m. act_of f (token.Replied n x) l) w n x) once
  first_once (token.Submission c s y) at k out once =
      same b.foreign h.foreign _ _ (said w (with_leader w c _) c s _ _ refl (known.lawful.coherent.pool i (token.Submission c s y) at).0) once
  first_once (token.ProofToLeader c s) at k out once =
      same b.foreign h.foreign _ _ (said w (with_leader w c _) c s _ _ refl (known.lawful.coherent.pool i (token.ProofToLeader c s) at).0) once
  first_once (token.HeldDeposit c s) at k out once = same b.foreign h.foreign _ _ (heard w c s _) once
  first_once (token.Challenge c s) at k out once = same b.foreign h.foreign _ _ (heard w c s _) once
  first_once (token.HeldProof c s) at k out once = same b.foreign h.foreign _ _ (heard w c s _) once
  first_once (token.Answer c s) at k out once = same b.foreign h.foreign _ _ (heard w c s _) once
  first_once (token.Deposit c s) at k out once = once
  first_once (token.ProofToHelper c s) at k out once = once
  first_once (token.Later c s) at k out once = once
  first_once (token.Foreign c) at k out once = once

-- ---- a whole run

module _ (b : Book) (v : World) (all : List Taken)
    (took : (s : Both) (t : Token) (i : ℕ) (l : Letter) (more : List Taken) → Known b v s.world → slice_get s.world.pool i ≡ Some t → Follows b s.frames s.world
    → Carries b t l → OutsideAt b.foreign t l → all ≡ (s.taken ++ taken_of s.frames t l) ++ more → Unique s
    → AreTaken b (taken_of s.frames t l) × Unique (both_come s (Some t) (Some l))) where
  abbrev pub UniqueOnce : Both → Type 0
  UniqueOnce s = Unique s × FirstOnce b.foreign s.world.commands

  pub takes_once : (s : Both) (t : Token) (i : ℕ) (l : Letter) (more : List Taken) → Known b v s.world → slice_get s.world.pool i ≡ Some t → Follows b s.frames s.world
      → Carries b t l → OutsideAt b.foreign t l → all ≡ (s.taken ++ taken_of s.frames t l) ++ more → UniqueOnce s
      → AreTaken b (taken_of s.frames t l) × UniqueOnce (both_come s (Some t) (Some l))
  unfolding both_come tokens.delivers
  takes_once s t i l more known at h k out is unique =
      let r = took s t i l more known at h k out is unique.0 in
      (r.0, (r.1, first_once b s.frames v s.world i l known h t at k out unique.1))

  pub stays_once : (s : Both) (g : FrameWorld) (u : World) (acts : List Act) → g.helper ≡ s.frames.helper → g.leader ≡ s.frames.leader → u.commands ≡ s.world.commands
      → u.journal ≡ s.world.journal → u.misfits ≡ s.world.misfits → UniqueOnce s → UniqueOnce (record { frames = g; world = u; acts = acts; taken = s.taken })
  stays_once s g u acts helper leader commands journal misfits unique =
      (stays s g u acts helper leader commands journal misfits unique.0, subst (FirstOnce b.foreign) (sym commands) unique.1)

-- ---- the end of a run

module _ (b : Book) (h : IsHistory b) (v : World) (w : IsWhole b v) (f : FrameWorld) (follows : Follows b f v) (order : JournalInOrder b f v)
    (once : FirstOnce b.foreign v.commands) where
  line_at : (i : ℕ) (e : Entry) → slice_get b.entries i ≡ Some e → slice_get (lines_of v.journal) i ≡ Some e.line
  line_at i e is = slice_get-map (λ (e : Entry). e.line) v.journal i ∙ ap (option_map (λ (e : Entry). e.line)) (ap (λ es. slice_get es i) w.journal ∙ is)

  command_at : (i : ℕ) (e : Entry) → slice_get b.entries i ≡ Some e → slice_get v.commands i ≡ Some e.line
  command_at i e is = (get_taken v.commands v.carried i e.line (ap (λ ls. slice_get ls i) (sym w.lawful.coherent.journal) ∙ line_at i e is)).1

  clients_small : (i : ℕ) (e : Entry) → slice_get b.entries i ≡ Some e → b.foreign e.line.lane ≡ false → e.line.serial < 2 ^ 32
  clients_small i e is honest =
      let by : IsAnswer b i e = h.answers i e is honest in
      let inside = slice_get_within (b.sent e.line.lane) (e.line.serial - 1) by.request by.is in
      let few = h.sound.serials e.line.lane in
      omega (arith, inside, few)

  strangers_small : (i : ℕ) (e : Entry) → slice_get b.entries i ≡ Some e → b.foreign e.line.lane ≡ true → e.line.serial < 2 ^ 32
  strangers_small i e is other =
      let there = follows.leader.foreign.there i e.line (command_at i e is) other in
      let low = there.1 in
      let row : ForeignLeaderRow b e.line.lane (leader.row_at f.leader e.line.lane) (v.lanes e.line.lane).leader =
      subst (λ t. LeaderRowAt b e.line.lane t (leader.row_at f.leader e.line.lane) (v.lanes e.line.lane).leader) other (follows.leader.rows e.line.lane there.0) in
      let small = row.small in
      omega (arith, low, small)

  small : (i : ℕ) (e : Entry) → slice_get b.entries i ≡ Some e → e.line.serial < 2 ^ 32
  small i e is = elim (cases_Bool (b.foreign e.line.lane)) [ inl other ↦ strangers_small i e is other | inr honest ↦ clients_small i e is honest ]

  distinct : (i k : ℕ) (e g : Entry) → i < k → slice_get b.entries i ≡ Some e → slice_get b.entries k ≡ Some g
      → turn e.line.command ≡ 0 → turn g.line.command ≡ 0 → read_stream e.line.lane e.line.serial ≡ read_stream g.line.lane g.line.serial → ⊥
  distinct i k e g before one two first second same =
      let low = small i e one in
      let high = small k g two in
      let lane : e.line.lane ≡ g.line.lane = omega (arith, same, low, high) in
      let serial : e.line.serial ≡ g.line.serial = omega (arith, same, lane) in
      elim (cases_Bool (b.foreign e.line.lane)) [
        | inl other ↦
            let at : i ≡ k = once i k e.line g.line (command_at i e one) (command_at k g two) other first second lane serial in
            omega (arith, at, before)
        | inr honest ↦ elim (order.order i k e.line g.line before (line_at i e one) (line_at k g two) lane (ap (λ g. g e.line.lane) w.foreign ∙ honest)) [
          | inl less ↦ omega (arith, serial, less)
          | inr both ↦ let t = both.1 in omega (arith, t, first, second)
        ]
      ]

  pub apart : MasksApart b f v
  apart i k e g before one two first second = record {
    one = read_stream e.line.lane e.line.serial;
    other = read_stream g.line.lane g.line.serial;
    first = λ key n. refl;
    second = λ key n. refl;
    apart = λ same. distinct i k e g before one two first second same;
  }

pub masks_apart : AtEveryEnd MasksApart
masks_apart settings seed foreign events limits fit few =
    let s = ended_of settings seed foreign events in
    let b = history_of settings seed foreign s in
    let is = world_is settings seed foreign events limits fit few in
    let unique = run_unique settings seed foreign events limits fit few
    (UniqueOnce b s.world s.taken (takes b s.world s.taken refl)) (takes_once b s.world s.taken (takes b s.world s.taken refl))
    (stays_once b s.world s.taken (takes b s.world s.taken refl)) ((tt, tt, refl), λ i k x y e d other first last lane serial. absurd (cc e)) in
    let v = token_run (oracle_of s.acts) settings foreign events in
    apart b (history_at_every_end settings seed foreign events limits fit few) v
    (subst (IsWhole b) is (whole_run settings seed foreign events limits fit few)) (frame_run settings seed events)
    (foreign_runs_agree settings seed foreign events limits fit few) (order_at_every_end settings seed foreign events limits fit few)
    (subst (λ (u : World). FirstOnce b.foreign u.commands) is unique.1)
