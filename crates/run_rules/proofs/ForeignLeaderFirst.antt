-- Each frame that the leader takes has its command, so a request's frames of a kind are taken once.
use Rattle.std.proofs.Common.{◌≡◌, ℕ, suc, zero, cond, ◌&&◌, nat_le, nat_lt, nat_eq, ◌<◌, ◌≤◌, true, false, Bool, List, [], ◌∷◌, ◌++◌, length, Some, Result, Ok, Err, slice_get, slice_index_or, refl, sym, ap, ◌∙◌, subst, arith}
use Rattle.std.proofs.lemmas.List.{get_or-set_same}
use Rattle.frame_rules.specs.Frames as frame
use Rattle.frame_rules.specs.Frames.{PlainFrame, PlainBody}
use Rattle.frame_rules.specs.Spelling.{spelling, IsFrame}
use Rattle.frame_rules.specs.Whole.{whole}
use Rattle.mailbox_rules.specs.Requests.{Command, Audits, Line}
use Rattle.token_rules.specs.Tokens as token
use Rattle.token_rules.specs.Tokens.{World}
use Rattle.token_rules.specs.Run.{comes, line_of}
use Rattle.express_words.specs.declared.refusal.Refusal.{Refusal}
use Rattle.step_rules.specs.Helper as helper
use Rattle.step_rules.specs.Leader as leader
use Rattle.step_rules.specs.Leader.{Row, Stage, row_at, idle}
use Rattle.step_rules.specs.LeaderClients as steps
use Rattle.run_rules.specs.Letters.{Letter, FrameWorld}
use Rattle.step_tokens.specs.Commands.{command_of}
use Rattle.run_rules.specs.Book.{Book}
use Rattle.run_rules.specs.Follows.{Carries, Follows, IsUnissued, StillToIssue}
use Rattle.run_rules.specs.Known.{Known}
use Rattle.run_rules.specs.Acts.{Taken, act_of, helper_takes, is_begun, issues_of, leader_takes, taken_of, taken_in}
use Rattle.run_rules.proofs.Basics.{whole_spelled}
use Rattle.run_rules.proofs.Histories.{comes_extends}
use Rattle.run_rules.proofs.LeaderClients.{full_is}
use Rattle.run_rules.proofs.ForeignLeaderComes.{issued_is}
use Rattle.run_rules.proofs.ForeignLeaderTaken.{IsIssuedFor, MayIssue, IsChallenged, command_for, issued_for_frame}

-- a frame that the leader took has its command
abbrev pub HasCommand : List Line → Taken → Type 0
HasCommand commands t =
    t.server ≡ 0 → (k : ℕ) × (slice_get commands k ≡ Some (line_of t.frame.lane t.frame.serial (command_for t.frame.body)))

abbrev pub HaveCommands : List Line → List Taken → Type 0
HaveCommands commands [] = Unit {0}
HaveCommands commands (t ∷ ts) = HasCommand commands t × HaveCommands commands ts

has_at : (commands : List Line) (ts : List Taken) (i : ℕ) (t : Taken) → HaveCommands commands ts → slice_get ts i ≡ Some t → HasCommand commands t
has_at commands [] i t h e = absurd (cc e)
has_at commands (x ∷ ts) zero t h e = let same : x ≡ t = cc e in subst (HasCommand commands) same h.0
has_at commands (x ∷ ts) (suc i) t h e = has_at commands ts i t h.1 e

get_before : {X : Type 0} (xs ys : List X) (i : ℕ) (x : X) → slice_get xs i ≡ Some x → slice_get (xs ++ ys) i ≡ Some x
get_before [] ys i x e = absurd (cc e)
get_before (z ∷ xs) ys zero x e = e
get_before (z ∷ xs) ys (suc i) x e = get_before xs ys i x e

have_later : (commands more : List Line) (ts : List Taken) → HaveCommands commands ts → HaveCommands (commands ++ more) ts
have_later commands more [] h = tt
have_later commands more (t ∷ ts) h =
    ((λ e. let k = h.0 e in (k.0, get_before commands more k.0 _ k.1)), have_later commands more ts h.1)

have_more : (commands : List Line) (ts us : List Taken) → HaveCommands commands ts → HaveCommands commands us → HaveCommands commands (ts ++ us)
have_more commands [] us h k = k
have_more commands (t ∷ ts) us h k = (h.0, have_more commands ts us h.1 k)

module _ (b : Book) (f : FrameWorld) (v w : World) (g command : PlainFrame) (n : ℕ) (bytes : List ℕ) (known : Known b v w) (h : Follows b f w)
    (foreign : b.foreign g.lane ≡ true) (read : whole bytes ≡ Ok g)
    (e : (steps.on_client f.leader bytes).answer ≡ leader.Link n command) where
  abbrev c : ℕ
  c = g.lane

  abbrev s : ℕ
  s = g.serial

  one : IsIssuedFor f.leader g command (steps.on_client f.leader bytes).leader
  one = issued_for_frame f.leader bytes g n command read e

  low : c < b.settings.lanes
  low = let l = one.low in let same = ap (λ x. x.lanes) h.leader.settings in omega (arith, l, same)

  -- its command is new
  unissued : (body : PlainBody) → MayIssue (row_at f.leader c) s body → IsUnissued w.commands c s (command_for body)
  unissued body may = at_body body may
    where
      later : (y : Command) → (row_at f.leader c).serial < s → IsUnissued w.commands c s y
      later y small k e = let there = h.leader.foreign.there k (line_of c s y) e foreign in let l = there.1 in omega (arith, l, small)

      of_stage : (stage : Stage) → IsChallenged stage → StillToIssue w.commands c s stage → IsUnissued w.commands c s Audits
      of_stage (leader.Challenged held kept) is still = still.0
      of_stage leader.Idle is still = absurd is
      of_stage (leader.Waiting number asked) is still = absurd is
      of_stage (leader.Auditing number held share sigma opened) is still = absurd is
      of_stage (leader.Settling number held own other) is still = absurd is
      of_stage (leader.Done asked kept) is still = absurd is

      at_body : (body : PlainBody) → MayIssue (row_at f.leader c) s body → IsUnissued w.commands c s (command_for body)
      at_body (frame.Register address key) may = later _ may
      at_body (frame.Write root part) may = later _ may
      at_body (frame.Read number held) may = later _ may
      at_body (frame.Retire number held) may = later _ may
      at_body (frame.Proof share) may =
          of_stage (row_at f.leader c).stage may.1 (subst (λ n. StillToIssue w.commands c n (row_at f.leader c).stage) (sym may.0) (h.leader.foreign.still c low foreign))
      at_body body may = absurd may

  -- no frame of its kind was taken before
  pub no_other : (ts : List Taken) (i : ℕ) (t : Taken) → HaveCommands w.commands ts → slice_get ts i ≡ Some t → t.server ≡ 0
      → t.frame.lane ≡ c → t.frame.serial ≡ s → command_for t.frame.body ≡ command_for g.body → ⊥
  no_other ts i t have at server lane serial kind =
      let k = has_at w.commands ts i t have at server in
      let same : line_of t.frame.lane t.frame.serial (command_for t.frame.body) ≡ line_of c s (command_for g.body) =
      ap (λ l. line_of l t.frame.serial (command_for t.frame.body)) lane ∙ ap (λ m. line_of c m (command_for t.frame.body)) serial ∙ ap (line_of c s) kind in
      unissued g.body one.may k.0 (k.1 ∙ ap Some same)

  -- nor any, where it submits its request
  pub no_earlier : (ts : List Taken) (i : ℕ) (t : Taken) → HaveCommands w.commands ts → slice_get ts i ≡ Some t → t.server ≡ 0
      → t.frame.lane ≡ c → t.frame.serial ≡ s → (row_at f.leader c).serial < s → ⊥
  no_earlier ts i t have at server lane serial small =
      let k = has_at w.commands ts i t have at server in
      let same : line_of t.frame.lane t.frame.serial (command_for t.frame.body) ≡ line_of c s (command_for t.frame.body) =
      ap (λ l. line_of l t.frame.serial (command_for t.frame.body)) lane ∙ ap (λ m. line_of c m (command_for t.frame.body)) serial in
      let there = h.leader.foreign.there k.0 (line_of c s (command_for t.frame.body)) (k.1 ∙ ap Some same) foreign in
      let l = there.1 in
      omega (arith, l, small)

  few : w.acknowledged ≤ length w.commands
  few = let i = known.lawful.coherent.acknowledged in let j = known.lawful.coherent.carried in omega (arith, i, j)

  pub one_more : (l : Letter) → l.bytes ≡ bytes
      → (comes (λ m. act_of f (token.Injected true (Some c)) l) w (token.Injected true (Some c))).commands ≡ w.commands ++ line_of c s (command_for g.body) ∷ []
  one_more l at =
      let t = steps.on_client f.leader l.bytes in
      let turn_is : t ≡ steps.on_client f.leader bytes = ap (steps.on_client f.leader) at in
      let r = one.row in
      let count = h.leader.count in
      let small = low in
      let row_is : row_at t.leader c ≡ r =
      ap (λ (t : leader.Turn). row_at t.leader c) turn_is ∙ ap (λ rows. slice_index_or rows c idle) one.rows ∙ get_or-set_same f.leader.rows c r idle (omega (arith, count, small)) in
      let some : issues_of t.answer ≡ Some (command_of command.body) = ap (λ (t : leader.Turn). issues_of t.answer) turn_is ∙ ap issues_of e in
      let room = sym (full_is b f w h few) ∙ one.room in
      let other : w.foreign c ≡ true = ap (λ g. g c) h.foreign ∙ foreign in
      let is = issued_is w c t (λ m. act_of f (token.Injected true (Some c)) l) r (command_of command.body) other refl some row_is room in
      ap (λ w. w.commands) is ∙ ap (λ n. w.commands ++ line_of c n (command_of command.body) ∷ []) one.at ∙ ap (λ y. w.commands ++ line_of c s y ∷ []) one.kind

  pub has_command : (commands : List Line) → commands ≡ w.commands ++ line_of c s (command_for g.body) ∷ []
      → HasCommand commands (record { server = 0; frame = g })
  has_command commands is e = (length w.commands, ap (λ ys. slice_get ys (length w.commands)) is ∙ last w.commands)
    where
      last : (xs : List Line) → slice_get (xs ++ line_of c s (command_for g.body) ∷ []) (length xs) ≡ Some (line_of c s (command_for g.body))
      last [] = refl
      last (x ∷ xs) = last xs

-- ---- they have their commands after each token

later_than : (b : Book) (f : FrameWorld) (w : World) (t : token.Token) (l : Letter) (ts : List Taken) → HaveCommands w.commands ts
    → HaveCommands (comes (λ m. act_of f t l) w t).commands ts
later_than b f w t l ts have =
    let more = (comes_extends (λ m. act_of f t l) w t).commands in
    subst (λ ys. HaveCommands ys ts) (sym more.1) (have_later w.commands more.0 ts have)

helpers_have : (commands : List Line) (r : helper.Row) (g : PlainFrame) (body : PlainBody) → HaveCommands commands (helper_takes r g body)
helpers_have commands r g (frame.Deposit held) = either (nat_lt r.serial g.serial)
  where
    either : (t : Bool) → HaveCommands commands (cond t (record { server = 1; frame = g } ∷ []) [])
    either true = ((λ e. absurd (cc e)), tt)
    either false = tt
helpers_have commands r g (frame.Proof share) = either (nat_eq g.serial r.serial && is_begun r.stage)
  where
    either : (t : Bool) → HaveCommands commands (cond t (record { server = 1; frame = g } ∷ []) [])
    either true = ((λ e. absurd (cc e)), tt)
    either false = tt
helpers_have commands r g body = tt

helper_in : (commands : List Line) (f : FrameWorld) (bytes : List ℕ) (read : Result PlainFrame Refusal) → HaveCommands commands (taken_in false f bytes read)
helper_in commands f bytes (Ok g) = either (nat_le f.helper.server.settings.lanes g.lane)
  where
    took : List Taken
    took = helper_takes (helper.row_at f.helper.server g.lane) g g.body

    either : (t : Bool) → HaveCommands commands (cond t [] took)
    either true = tt
    either false = helpers_have commands (helper.row_at f.helper.server g.lane) g g.body
helper_in commands f bytes (Err r) = tt

leader_in : (b : Book) (f : FrameWorld) (v w : World) (c : ℕ) (l : Letter) (g : PlainFrame) → Known b v w → Follows b f w → b.foreign c ≡ true
    → g.lane ≡ c → whole l.bytes ≡ Ok g → (answer : leader.Answer) → (steps.on_client f.leader l.bytes).answer ≡ answer
    → HaveCommands (comes (λ m. act_of f (token.Injected true (Some c)) l) w (token.Injected true (Some c))).commands (leader_takes g answer)
leader_in b f v w c l g known h foreign lane read (leader.Link n command) e =
    let here : b.foreign g.lane ≡ true = ap b.foreign lane ∙ foreign in
    let more = subst (λ d. (comes (λ m. act_of f (token.Injected true (Some d)) l) w (token.Injected true (Some d))).commands ≡ w.commands ++ line_of g.lane g.serial (command_for g.body) ∷ []) lane
    (one_more b f v w g command n l.bytes known h here read e l refl) in
    (has_command b f v w g command n l.bytes known h here read e _ more, tt)
leader_in b f v w c l g known h foreign lane read (leader.Reply reply) e = tt
leader_in b f v w c l g known h foreign lane read (leader.StillWaiting n) e = tt

-- a lane that a token from outside names is foreign
abbrev pub NamesForeignLane : Book → token.Token → Type 0
NamesForeignLane b (token.Injected to_leader (Some c)) = b.foreign c ≡ true
NamesForeignLane b t = Unit {0}

pub taken_have : (b : Book) (f : FrameWorld) (v w : World) (t : token.Token) (l : Letter) (ts : List Taken) → Known b v w → Follows b f w
    → Carries b t l → NamesForeignLane b t → HaveCommands w.commands ts
    → HaveCommands (comes (λ m. act_of f t l) w t).commands (ts ++ taken_of f t l)
taken_have b f v w t l ts known h k names have =
    have_more _ ts (taken_of f t l) (later_than b f w t l ts have) (of_token t k names)
  where
    of_token : (t : token.Token) → Carries b t l → NamesForeignLane b t → HaveCommands (comes (λ m. act_of f t l) w t).commands (taken_of f t l)
    of_token (token.Injected true (Some c)) k names =
        let g = k.1.0 in
        let fr : IsFrame g = k.1.1.0 in
        let spelled : l.bytes ≡ spelling g = k.1.1.1.0 in
        let lane : g.lane ≡ c = k.1.1.1.1.0 in
        let read : whole l.bytes ≡ Ok g = ap whole spelled ∙ whole_spelled g fr in
        subst (HaveCommands _) (sym (ap (taken_in true f l.bytes) read))
        (leader_in b f v w c l g known h names lane read (steps.on_client f.leader l.bytes).answer refl)
    of_token (token.Injected false (Some c)) k names = helper_in _ f l.bytes (whole l.bytes)
    of_token t k names = tt
