-- The helper's reply to a client's command comes to the leader, in both runs: what is left to show is what the
-- leader makes of it.
use Rattle.std.proofs.Common.{◌≡◌, ℕ, ◌<◌, ◌≤◌, ◌+◌, ◌-◌, true, false, length, Some, slice_get, refl, sym, ap, ◌∙◌, subst, arith}
use Rattle.frame_rules.specs.Frames.{PlainFrame}
use Rattle.frame_rules.specs.Whole.{is_reply, has_width}
use Rattle.mailbox_rules.specs.Requests.{Command, Line, lines_of}
use Rattle.mailbox_rules.specs.Tables.{Result, Registered, Taken, Full, Began, WasAudited, Settled, Gave, NoBox, Refused}
use Rattle.token_rules.specs.Tokens as token
use Rattle.token_rules.specs.Tokens.{World, Oracle}
use Rattle.token_rules.specs.Run.{reply_applied, comes, line_of}
use Rattle.token_rules.specs.Stages.{Stage, Fits, done}
use Rattle.token_rules.specs.Invariant.{Made, state}
use Rattle.token_rules.proofs.Clients.{line_at}
use Rattle.token_rules.proofs.Lists.{taken_get, get_taken}
use Rattle.step_rules.specs.LeaderReplies as steps
use Rattle.run_rules.specs.Letters.{ToLeaderLink, FrameWorld}
use Rattle.run_rules.specs.Run as frames
use Rattle.run_rules.specs.Book.{Book}
use Rattle.run_rules.specs.Frames.{frame_with, frame_of, command_body, reply_with, reply_body}
use Rattle.run_rules.specs.Follows.{Spelled, IsFrameOf, Within, Follows}
use Rattle.run_rules.specs.Known.{Known}
use Rattle.run_rules.specs.Laws.{ComesFollows}
use Rattle.run_rules.proofs.HelperRegistered.{linked_spelled}
use Rattle.run_rules.proofs.LeaderRegistered.{entry_of}
use Rattle.run_rules.proofs.LeaderReplies.{reply_follows, command_is}

-- a reply is one of the helper's
replies_all : (b : Book) (i : ℕ) (x : Line) (result : Result) → is_reply (reply_with b i x result) ≡ true
unfolding reply_with
replies_all b i x (Registered n) = refl
replies_all b i x (Taken n) = refl
replies_all b i x (Full limit) = refl
replies_all b i x (Began count) = refl
replies_all b i x WasAudited = refl
replies_all b i x (Settled true) = refl
replies_all b i x (Settled false) = refl
replies_all b i x (Gave n bytes) = refl
replies_all b i x (NoBox n) = refl
replies_all b i x Refused = refl

-- the command and its reply as they come in a world
abbrev pub command_at : Book → World → Line → PlainFrame
command_at b w x = frame_with x.lane x.serial (w.acknowledged + 1) (command_body b w.acknowledged x x.command)

-- the leader applies the reply to its oldest outstanding command
abbrev pub AppliesSo : Book → Line → Type 0
AppliesSo b x = (o : Oracle) (f : FrameWorld) (v w : World) → Known b v w → Follows b f w → x.lane < b.settings.lanes
    → slice_get w.commands w.acknowledged ≡ Some x → w.acknowledged < w.carried
    → Follows b (frames.to_leader_link f (steps.if_fits f.leader (steps.fits f.leader (command_at b w x) (reply_body b w.acknowledged x) (steps.refusal_in (reply_body b w.acknowledged x)))))
    (reply_applied o w x)

reply_is : (b : Book) (n : ℕ) (x : Line) (g : PlainFrame) → frame_of b (token.Replied n x) ≡ Some g
    → g ≡ frame_with x.lane x.serial n (reply_body b (n - 1) x)
unfolding frame_of
reply_is b n x g e = cc

pub replied_follows : (b : Book) (n : ℕ) (x : Line) → b.foreign x.lane ≡ false
    → ((i : ℕ) → has_width b.settings.width (reply_body b i x) ≡ true) → AppliesSo b x
    → ComesFollows b (token.Replied n x)
unfolding comes frames.comes
replied_follows b n x hon wide applies o f v w i l k after e h carries =
    let one : IsFrameOf b l ToLeaderLink x.lane (token.Replied n x) = rw hon at carries in
    let spelled = subst (Spelled l ToLeaderLink) (reply_is b n x one.frame one.is) one.spelled in
    let g = frame_with x.lane x.serial n (reply_body b (n - 1) x) in
    let claim = k.lawful.coherent.pool i (token.Replied n x) e in
    let number = claim.1.0 in
    let next = number.next in
    let low = claim.1.1 in
    let width : f.leader.settings.width ≡ b.settings.width = ap (λ s. s.width) h.leader.settings in
    let read = linked_spelled is_reply f.leader.settings.width g spelled.is_frame (replies_all b (n - 1) x _)
    (ap (λ m. has_width m (reply_body b (n - 1) x)) width ∙ wide (n - 1)) in
    rw (spelled.at, spelled.bytes, read)
    (reply_follows b o f w k.lawful.stages n x g h number hon refl refl refl (λ c of at.
    let same = command_is b n x c (rw hon at of) in
    let there : slice_get w.commands w.acknowledged ≡ Some x = subst (λ m. slice_get w.commands m ≡ Some x) (omega (arith, at, next)) number.is in
    let here : n - 1 ≡ w.acknowledged = omega (arith, at) in
    let is : command_at b w x ≡ c = ap (λ m. frame_with x.lane x.serial m (command_body b w.acknowledged x x.command)) at ∙ ap (λ m. frame_with x.lane x.serial n (command_body b m x x.command)) (sym here) ∙ same in
    rw (sym is, here) (applies o f v w k h one.lane there (omega (arith, at, low)))))

-- ---- the entry of a command that was carried out

pub entry_line : (b : Book) (v w : World) (i : ℕ) (x : Line) → Known b v w → slice_get w.commands i ≡ Some x
    → i < w.carried → slice_get (lines_of b.entries) i ≡ Some x
entry_line b v w i x k there carried =
    let is : slice_get (lines_of w.journal) i ≡ Some x = rw (k.lawful.coherent.journal) (taken_get w.commands w.carried i x carried there) in
    let e = entry_of w.journal i x is in
    let all = k.within.journal in
    let mine = (get_taken b.entries (length w.journal) i e.0 (ap (λ es. slice_get es i) (sym all) ∙ e.1.0)).1 in
    line_at b.entries i e.0 mine ∙ ap Some e.1.1

pub journal_line : (b : Book) (v w : World) (x : Line) → Known b v w → slice_get w.commands w.acknowledged ≡ Some x
    → w.acknowledged < w.carried → slice_get (lines_of b.entries) w.acknowledged ≡ Some x
journal_line b v w x k there carried = entry_line b v w w.acknowledged x k there carried

-- a command that was issued stands among the history's
pub command_there : (b : Book) (w : World) (i : ℕ) (x : Line) → Within b w → slice_get w.commands i ≡ Some x
    → slice_get b.commands i ≡ Some x
command_there b w i x within there =
    let all = within.commands in
    (get_taken b.commands (length w.commands) i x (ap (λ xs. slice_get xs i) (sym all) ∙ there)).1

-- ---- where its lane stands

pub record Held (w : World) (p : ℕ → Stage) (c s : ℕ) (y : Command) : Type 0 where
  pub serial : (w.lanes c).serial ≡ s
  pub stage : p c ≡ done y
  pub fits : Fits (w.lanes c) (done y)
  pub made : Made (state w p) c (w.lanes c) (done y)
  pub first : 1 ≤ s

pub held_at : (b : Book) (v w : World) (c s : ℕ) (y : Command) (k : Known b v w) → w.foreign c ≡ false
    → slice_get w.commands w.acknowledged ≡ Some (line_of c s y) → w.acknowledged < w.carried
    → Held w k.lawful.stages c s y
held_at b v w c s y k hon there carried =
    let ok = k.lawful.coherent in
    let now = (ok.lines w.acknowledged (line_of c s y) there hon).held (omega arith) carried in
    let sent = k.lawful.sent.lines w.acknowledged (line_of c s y) there hon in
    let pos = sent.numbered in
    record {
      serial = now.serial;
      stage = now.stage;
      fits = subst (Fits (w.lanes c)) now.stage (ok.fits c hon);
      made = subst (Made (state w k.lawful.stages) c (w.lanes c)) now.stage (ok.made c hon);
      first = omega (arith, pos);
    }
