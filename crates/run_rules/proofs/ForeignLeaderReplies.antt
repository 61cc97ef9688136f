-- What the leader makes of the reply to a foreign lane's command: it is applied, or it doesn't fit.
use Rattle.std.proofs.Common.{◌≡◌, ◌∙◌, ℕ, ◌<◌, ◌≤◌, ◌^◌, ◌+◌, true, false, List, Some, slice_set, slice_index_or, refl, sym, subst, arith}
use Rattle.std.proofs.lemmas.List.{get_or-set_same}
use Rattle.express_words.specs.declared.refusal.Refusal.{Refusal}
use Rattle.express_words.specs.declared.refusal.Refusal.TheVariants as refusal
use Rattle.frame_rules.specs.Frames as frame
use Rattle.frame_rules.specs.Frames.{PlainFrame, PlainBody}
use Rattle.frame_rules.specs.Spelling.{IsFrame, IsRefusal, IsReplyRefusal, IsAddressed}
use Rattle.lane_table.specs.declared.row.Want.{Want}
use Rattle.mailbox_rules.specs.Requests.{Command, Audits, Settles, Line}
use Rattle.token_rules.specs.Tokens as token
use Rattle.token_rules.specs.Tokens.{World}
use Rattle.token_rules.specs.Run.{line_of, issues, sends, with_leader, acknowledges, acted}
use Rattle.step_rules.specs.Boxes.{Box}
use Rattle.step_rules.specs.Leader as leader
use Rattle.step_rules.specs.Leader.{Leader, Row, Stage, Asked, Registering, Writing, Reading, Retiring, AckTurn, row, row_at, idle}
use Rattle.step_rules.specs.LeaderReplies as steps
use Rattle.step_tokens.specs.LeaderRows.{bare}
use Rattle.run_rules.specs.Letters.{FrameWorld}
use Rattle.run_rules.specs.Run as frames
use Rattle.run_rules.specs.Book.{Book}
use Rattle.run_rules.specs.Values.{boxes_at}
use Rattle.run_rules.specs.Frames.{frame_with}
use Rattle.run_rules.specs.Follows.{ForeignLeaderHolds, ForeignLeaderRow, LeaderRowAt, Awaits, Follows}
use Rattle.run_rules.specs.Known.{Known}
use Rattle.run_rules.specs.Acts.{fits_of, settles_of}
use Rattle.run_rules.proofs.ForeignLeaderApplied.{Oldest, foreign_applied_follows}
use Rattle.run_rules.proofs.LeaderReplies.{applied}

-- a turn and its act: the reply fits, and the lane is answered or the settle is issued
pub data LeaderAcks (b : Book) (f : FrameWorld) (w : World) (x : Line) (t : AckTurn) : Type 0 where
  Answered : (r : Row) → fits_of t.ack ≡ true → settles_of t.ack ≡ false → row_at t.leader x.lane ≡ r
      → Follows b (frames.to_leader_link f t) (sends (with_leader (acknowledges (acted w)) x.lane (bare r)) (token.Foreign x.lane)) → LeaderAcks b f w x t
  Settled : (r : Row) → fits_of t.ack ≡ true → settles_of t.ack ≡ true → x.command ≡ Audits → row_at t.leader x.lane ≡ r
      → Follows b (frames.to_leader_link f t) (issues (with_leader (acknowledges (acted w)) x.lane (bare r)) (line_of x.lane x.serial Settles)) → LeaderAcks b f w x t

pub acks_fit : (b : Book) (f : FrameWorld) (w : World) (x : Line) (t : AckTurn) → LeaderAcks b f w x t
    → fits_of t.ack ≡ true
acks_fit b f w x t (Answered r fits settles row k) = fits
acks_fit b f w x t (Settled r fits settles audits row k) = fits

refusal_spelled : (r : Refusal) → IsReplyRefusal r → IsRefusal r
refusal_spelled (refusal.Lane limit) h = h
refusal_spelled (refusal.Taken n) h = h
refusal_spelled (refusal.Full limit) h = h
refusal_spelled (refusal.NoBox n) h = h
refusal_spelled (refusal.BadToken n) h = h
refusal_spelled refusal.NoDeposit h = h
refusal_spelled refusal.NotProved h = h
refusal_spelled r h = absurd h

refusal_addressed : (r : Refusal) (lane serial : ℕ) → IsReplyRefusal r → 1 ≤ serial → IsAddressed (frame.Refused r) lane serial
refusal_addressed (refusal.Lane limit) lane serial h first = first
refusal_addressed (refusal.Taken n) lane serial h first = first
refusal_addressed (refusal.Full limit) lane serial h first = first
refusal_addressed (refusal.NoBox n) lane serial h first = first
refusal_addressed (refusal.BadToken n) lane serial h first = first
refusal_addressed refusal.NoDeposit lane serial h first = first
refusal_addressed refusal.NotProved lane serial h first = first
refusal_addressed r lane serial h first = absurd h

module _ (b : Book) (f : FrameWorld) (v w : World) (c s : ℕ) (y : Command) (known : Known b v w) (h : Follows b f w) (k : Oldest b f w c s y)
    (lane : c < 2 ^ 16) (small : s < 2 ^ 32) (first : 1 ≤ s) where
  abbrev x : Line
  x = line_of c s y

  abbrev i : ℕ
  i = w.acknowledged

  abbrev a : Leader
  a = f.leader

  abbrev ordered : PlainBody → PlainFrame
  ordered order = frame_with c s (i + 1) order

  pub row_is : (r : Row) → slice_index_or (slice_set a.rows c r) c idle ≡ r
  row_is r = let count = h.leader.count in let low = k.low in get_or-set_same a.rows c r idle (omega (arith, count, low))

  pub awaited : ((row_at a c).serial ≡ s) × Awaits y (row_at a c).stage
  awaited = h.leader.awaited i x (omega arith) k.there k.foreign

  foreign_row : ForeignLeaderRow b c (row_at a c) (w.lanes c).leader
  foreign_row = subst (λ t. LeaderRowAt b c t (row_at a c) (w.lanes c).leader) k.foreign (h.leader.rows c k.low)

  pub holds : ForeignLeaderHolds b c s (row_at a c).stage
  holds = subst (λ n. ForeignLeaderHolds b c n (row_at a c).stage) awaited.0 foreign_row.holds

  -- the request is done with
  pub done_acks : (asked : Want) (boxes : List Box) (kept : PlainBody) → boxes ≡ boxes_at b 0 (i + 1) → IsFrame (frame_with c s 0 kept)
      → LeaderAcks b f w x (applied a c (row s (leader.Done asked kept)) boxes kept s)
  done_acks asked boxes kept boxed fr =
      let r = row s (leader.Done asked kept) in
      Answered r refl refl (row_is r)
      (foreign_applied_follows b f w c s (w.moment + 1) y r boxes kept h k (record { bare = refl; small = small; holds = fr }) refl tt tt boxed fr)

  -- a refusal of the helper
  pub refused_acks : (order : PlainBody) (r : Refusal) → IsReplyRefusal r → boxes_at b 0 (i + 1) ≡ boxes_at b 0 i
      → LeaderAcks b f w x (steps.if_fits a (steps.fits a (ordered order) (frame.LinkReply (frame.ReplyRefused r)) (Some r)))
  unfolding steps.fits
  refused_acks order r is boxed =
      done_acks (steps.want_for order) a.boxes (frame.Refused r) (h.leader.boxes ∙ sym boxed)
      (record { lane = lane; serial = small; addressed = refusal_addressed r c s is first; link = omega arith; linked = refl; body = refusal_spelled r is })
