-- Any bytes from outside come to the leader, in both runs.
use Rattle.std.proofs.Common.{◌≡◌, ℕ, ◌<◌, ◌^◌, cond, true, false, Bool, List, [], ◌∷◌, All, Some, None, Result, Ok, Err, refl, sym, ap, ◌∙◌, subst, inr, length, lit<}
use Rattle.express_words.specs.declared.refusal.Refusal.{Refusal}
use Rattle.express_words.specs.declared.refusal.Refusal.TheVariants as refusal
use Rattle.frame_rules.specs.Reading.{decoded}
use Rattle.frame_rules.specs.Frames as frame
use Rattle.frame_rules.specs.Frames.{PlainFrame, PlainBody}
use Rattle.frame_rules.specs.Spelling.{spelling, IsFrame, IsRefusal}
use Rattle.frame_rules.proofs.WholeLaws.{whole_found, malformed_frame}
use Rattle.run_rules.proofs.FaultLaws.{whole_refused}
use Rattle.frame_rules.specs.Whole.{whole, is_from_client}
use Rattle.frame_rules.proofs.AnswerLaws.{client_serial}
use Rattle.mailbox_rules.specs.Requests.{Command}
use Rattle.token_rules.specs.Tokens as token
use Rattle.token_rules.specs.Tokens.{World, Oracle, Act, no_act}
use Rattle.token_rules.specs.Run.{comes, injected_comes, foreign_frame_comes, foreign_at_leader, acted, is_full, sends_all, foreign_tokens}
use Rattle.step_rules.specs.Leader as leader
use Rattle.step_rules.specs.Leader.{Row, row_at}
use Rattle.step_rules.specs.LeaderClients as steps
use Rattle.step_tokens.specs.LeaderRows.{bare}
use Rattle.run_rules.specs.Letters.{Letter, FrameWorld}
use Rattle.run_rules.specs.Run as frames
use Rattle.run_rules.specs.Book.{Book}
use Rattle.run_rules.specs.Follows.{Carries, OfNoFrame, Within, Follows}
use Rattle.run_rules.specs.Known.{Known}
use Rattle.run_rules.specs.Acts.{act_of, says_of, issues_of}
use Rattle.run_rules.proofs.Basics.{whole_spelled}
use Rattle.run_rules.proofs.ForeignHelperComes.{named, refused_frame}
use Rattle.run_rules.proofs.LeaderClients.{posts_follow}
use Rattle.run_rules.proofs.ForeignHelperTurns.{Came}
use Rattle.run_rules.proofs.ForeignLeaderFrames.{LeaderActs, Alone, Issues, issuing, BringsBody, kind_acts}

-- what a frame brings is what the history says
abbrev pub BringsOf : Book → PlainFrame → Type 0
BringsOf b g = BringsBody b g.lane g.serial g.body

-- the act of a turn at a lane
abbrev turn_act : leader.Turn → ℕ → Act
turn_act t c = record no_act { row = bare (row_at t.leader c); says = says_of t.answer; issues = issues_of t.answer }

pub issued_is : (w : World) (c : ℕ) (t : leader.Turn) (o : Oracle) (r : Row) (y : Command) → w.foreign c ≡ true → o w.moment ≡ turn_act t c
    → issues_of t.answer ≡ Some y → row_at t.leader c ≡ r → is_full w ≡ false
    → comes o w (token.Injected true (Some c)) ≡ issuing w c r y
unfolding comes injected_comes foreign_frame_comes foreign_at_leader
issued_is w c t o r y foreign same some row room = rw (foreign, same, room, some, row) refl

-- the token run that takes it goes on as the frames' run
pub acts_follow : (b : Book) (f : FrameWorld) (w : World) (c : ℕ) (t : leader.Turn) (o : Oracle) → LeaderActs b f w c t
    → w.foreign c ≡ true → o w.moment ≡ turn_act t c
    → Within b (comes o w (token.Injected true (Some c)))
    → Follows b (frames.to_leader f t) (comes o w (token.Injected true (Some c)))
unfolding comes injected_comes foreign_frame_comes foreign_at_leader
acts_follow b f w c t o (Alone none k) foreign same after =
    rw (foreign, same, none) (either (is_full w))
  where
    either : (u : Bool) → Follows b (frames.to_leader f t) (cond u (sends_all (acted w) (foreign_tokens (says_of t.answer))) (sends_all (acted w) (foreign_tokens (says_of t.answer))))
    either true = k
    either false = k
acts_follow b f w c t o (Issues r y some row room k) foreign same after =
    let is = issued_is w c t o r y foreign same some row room in
    subst (Follows b (frames.to_leader f t)) (sym is) (k (subst (Within b) is after))

-- a client's frame of a foreign lane
pub injected_follows_act : (b : Book) (f : FrameWorld) (v w : World) (c : ℕ) (l : Letter) → Known b v w
    → Known b v (comes (λ m. act_of f (token.Injected true (Some c)) l) w (token.Injected true (Some c))) → Follows b f w
    → b.foreign c ≡ true → Carries b (token.Injected true (Some c)) l
    → ((g : PlainFrame) (n : ℕ) (command : PlainFrame) → IsFrame g → l.bytes ≡ spelling g
    → (steps.on_client f.leader l.bytes).answer ≡ leader.Link n command → BringsOf b g)
    → Follows b (frames.comes f l.to l.bytes) (comes (λ m. act_of f (token.Injected true (Some c)) l) w (token.Injected true (Some c)))
unfolding steps.on_whole frames.comes
injected_follows_act b f v w c l known after h foreign k brings =
    let g = k.1.0 in
    let fr : IsFrame g = k.1.1.0 in
    let spelled : l.bytes ≡ spelling g = k.1.1.1.0 in
    let lane : g.lane ≡ c = k.1.1.1.1.0 in
    let client : is_from_client g.body ≡ true = k.1.1.1.1.1 in
    let came : Came g.lane g.serial = record { lane = fr.lane; serial = fr.serial; first = client_serial g.body g.lane g.serial client fr.addressed } in
    let here : b.foreign g.lane ≡ true = ap b.foreign lane ∙ foreign in
    let read : whole l.bytes ≡ Ok g = ap whole spelled ∙ whole_spelled g fr in
    let turn_is : steps.on_client f.leader l.bytes ≡ steps.by_kind f.leader g g.body = ap (steps.on_whole f.leader) read in
    let acts : LeaderActs b f w c (steps.by_kind f.leader g g.body) = subst (λ d. LeaderActs b f w d (steps.by_kind f.leader g g.body)) lane
    (kind_acts b f v w g known h here came g.body fr.body (λ n command e. brings g n command fr spelled (ap (λ (t : leader.Turn). t.answer) turn_is ∙ e))) in
    let both : LeaderActs b f w c (steps.on_client f.leader l.bytes) = subst (LeaderActs b f w c) (sym turn_is) acts in
    let other : w.foreign c ≡ true = ap (λ g. g c) h.foreign ∙ foreign in
    let o : Oracle = λ m. act_of f (token.Injected true (Some c)) l in
    subst (λ to. Follows b (frames.comes f to l.bytes) (comes o w (token.Injected true (Some c)))) (sym k.0)
    (acts_follow b f w c (steps.on_client f.leader l.bytes) o both other refl after.within)

-- ---- what is no frame of a client

-- the bytes are refused, whatever the rows hold
record IsRefused (a : leader.Leader) (t : leader.Turn) : Type 0 where
  refusal : Refusal
  is : t ≡ leader.refuses_bytes a refusal
  why : OfNoFrame (frame.Refused refusal)
  is_frame : IsFrame (record { lane = 0; serial = 0; link = 0; body = frame.Refused refusal })

refused_body : (a : leader.Leader) (g : PlainFrame) (body : PlainBody) → (is_from_client body ≡ true → ⊥)
    → IsRefused a (steps.by_kind a g body)
unfolding steps.by_kind
refused_body a g (frame.Register address key) never = absurd (never refl)
refused_body a g (frame.Write root part) never = absurd (never refl)
refused_body a g (frame.Read n held) never = absurd (never refl)
refused_body a g (frame.Retire n held) never = absurd (never refl)
refused_body a g (frame.Proof share) never = absurd (never refl)
refused_body a g body never = record { refusal = refusal.Malformed 5; is = refl; why = refl; is_frame = malformed_frame 5 (lit< tt) }

no_frame : (a : leader.Leader) (bytes : List ℕ) (read : Result PlainFrame Refusal) → whole bytes ≡ read
    → ((r : Refusal) → read ≡ Err r → IsRefusal r)
    → ((g : PlainFrame) → read ≡ Ok g → is_from_client g.body ≡ true → ⊥)
    → IsRefused a (steps.on_whole a read)
unfolding steps.on_whole
no_frame a bytes (Err r) e small never =
    let of = named (length bytes) (decoded bytes) r e in
    record { refusal = r; is = refl; why = of; is_frame = refused_frame r of (small r refl) }
no_frame a bytes (Ok g) e small never = refused_body a g g.body (never g refl)

-- bytes that aren't exactly one frame of a client
pub outside_follows : (b : Book) (o : Oracle) (f : FrameWorld) (w : World) (l : Letter) → Follows b f w
    → Carries b (token.Injected true None) l → All (λ n. n < 256) l.bytes
    → length l.bytes < 2 ^ 32
    → Follows b (frames.comes f l.to l.bytes) (comes o w (token.Injected true None))
unfolding comes injected_comes frames.comes
outside_follows b o f w l h k bytes few =
    let none = no_frame f.leader l.bytes (whole l.bytes) refl (λ r e. whole_refused l.bytes r bytes few e) (λ g e client.
    let s = whole_found l.bytes g bytes e in k.1 g s.is_frame s.spelled client) in
    rw (k.0, none.is) (posts_follow b f w (token.Foreign 0 ∷ []) _ h
    (record { frame = record { lane = 0; serial = 0; link = 0; body = frame.Refused none.refusal }; why = inr none.why; lane = refl; spelled = record { at = refl; bytes = refl; is_frame = none.is_frame } }, tt))
