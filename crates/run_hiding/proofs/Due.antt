-- An outstanding command of a foreign lane rests on what its lane's row holds, and so is the same in both runs.
use Rattle.std.proofs.Common.{◌≡◌, ◌∙◌, ◌<◌, ◌≤◌, ℕ, true, List, length, take, Some, slice_get, sym, ap, subst, arith, inl, inr}
use Rattle.std.proofs.lemmas.Option.{slice_get_within}
use Rattle.mailbox_rules.specs.Requests.{Command, Entry, Line, Request}
use Rattle.token_rules.specs.Tokens.{World}
use Rattle.step_rules.specs.Leader as leader
use Rattle.step_rules.specs.Leader.{Row, Stage}
use Rattle.run_rules.specs.Letters.{FrameWorld}
use Rattle.run_rules.specs.Book.{Book, Brought, leaders_draw}
use Rattle.run_rules.specs.Follows.{Awaits, Follows, ForeignLeaderHolds, ForeignLeaderRow, LeaderRowAt, Within}
use Rattle.run_hiding.proofs.LikeLeader.{hidden_row}
use Rattle.run_hiding.proofs.LikeReplies.{split}
use Rattle.run_hiding.proofs.Agree.{SameFor, same_draw, same_front}

no_done : (y : Command) (x : Stage) (want : _) (kept : _) → x ≡ leader.Done want kept → Awaits y x → ⊥
no_done y x want kept e h = subst (Awaits y) e h

module _ (b : Book) (sent : ℕ → List Request) (commands : List Line) (entries : List Entry) (brought : Brought) where
  abbrev d : Book
  d = record b { sent = sent; commands = commands; entries = entries; brought = brought }

  abbrev Same : ℕ → ℕ → ℕ → Command → Type 0
  Same k c s y = SameFor b sent commands entries brought k c s y

  -- by what both rows hold
  by_stage : (k c s : ℕ) (y : Command) (x : Stage) → leaders_draw d k ≡ leaders_draw b k → Awaits y x → ForeignLeaderHolds b c s x → ForeignLeaderHolds d c s x
      → Same k c s y
  by_stage k c s y (leader.Waiting n (leader.Registering address key)) draw is one two =
      subst (Same k c s) is (sym two.0 ∙ one.0, sym two.1 ∙ one.1)
  by_stage k c s y (leader.Waiting n (leader.Writing root part drawn)) draw is one two =
      subst (Same k c s) is (draw, sym two.1 ∙ one.1)
  by_stage k c s y (leader.Waiting n (leader.Reading number)) draw is one two = subst (Same k c s) is (sym two ∙ one)
  by_stage k c s y (leader.Waiting n (leader.Retiring number)) draw is one two = subst (Same k c s) is (sym two ∙ one)
  by_stage k c s y (leader.Auditing n write share sigma opened) draw is one two =
      subst (Same k c s) (sym is) (sym two.2 ∙ one.2, sym two.3 ∙ one.3)
  by_stage k c s y (leader.Settling n write own other) draw is one two = subst (Same k c s) (sym is) (sym two.1 ∙ one.1)
  by_stage k c s y (leader.Challenged write kept) draw is one two = absurd is
  by_stage k c s y (leader.Done want kept) draw is one two = absurd is
  by_stage k c s y leader.Idle draw is one two = absurd is

  module _ (f g : FrameWorld) (w u : World) (h : Follows b f w) (j : Follows d g u) (within : Within b w) (theirs : Within d u)
      (lines : u.commands ≡ w.commands) (acknowledged : u.acknowledged ≡ w.acknowledged)
      (rows : (c : ℕ) → b.foreign c ≡ true → hidden_row (leader.row_at g.leader c) ≡ hidden_row (leader.row_at f.leader c)) where
    pub due_same : (k : ℕ) (x : Line) → w.acknowledged ≤ k → slice_get w.commands k ≡ Some x → b.foreign x.lane ≡ true → Same k x.lane x.serial x.command
    due_same k x low is foreign =
        let here : slice_get u.commands k ≡ Some x = ap (λ cs. slice_get cs k) lines ∙ is in
        let mine = h.leader.awaited k x low is foreign in
        let other = j.leader.awaited k x (omega (arith, low, acknowledged)) here foreign in
        let c = x.lane in
        let few = (h.leader.foreign.there k x is foreign).0 in
        let r : Row = leader.row_at f.leader c in
        let q : Row = leader.row_at g.leader c in
        let one : ForeignLeaderRow b c r (w.lanes c).leader = subst (λ t. LeaderRowAt b c t r (w.lanes c).leader) foreign (h.leader.rows c few) in
        let two : ForeignLeaderRow d c q (u.lanes c).leader = subst (λ t. LeaderRowAt d c t q (u.lanes c).leader) foreign (j.leader.rows c few) in
        let at : k < length w.commands = slice_get_within w.commands k x is in
        let more : w.commands ≡ take (length w.commands) commands = sym lines ∙ theirs.commands ∙ ap (λ (cs : List Line). take (length cs) commands) lines in
        let draw : leaders_draw d k ≡ leaders_draw b k =
        same_draw b sent commands entries brought k (same_front k commands b.commands w.commands (omega (arith, at)) more within.commands) in
        let held : ForeignLeaderHolds b c x.serial r.stage = subst (λ s. ForeignLeaderHolds b c s r.stage) mine.0 one.holds in
        let kept : ForeignLeaderHolds d c x.serial q.stage = subst (λ s. ForeignLeaderHolds d c s q.stage) other.0 two.holds in
        elim (split q.stage r.stage (ap (λ (r : Row). r.stage) (rows c foreign))) [
          | inl same ↦ by_stage k c x.serial x.command r.stage draw mine.1 held (subst (ForeignLeaderHolds d c x.serial) same kept)
          | inr done ↦ absurd (no_done x.command r.stage done.second done.theirs done.is_second mine.1)
        ]
