-- The reply to a write's settle comes to the leader, in both runs: the write is accepted or rejected.
use Rattle.std.proofs.Common.{◌≡◌, ℕ, ◌<◌, ◌≤◌, ◌^◌, ◌+◌, cond, true, false, Bool, List, length, map, Some, None, slice_get, refl, sym, ap, ◌∙◌, subst, arith}
use Rattle.express_words.specs.declared.audit.Closing.{Closing}
use Rattle.frame_rules.specs.Frames as frame
use Rattle.frame_rules.specs.Frames.{PlainFrame, PlainBody}
use Rattle.frame_rules.specs.Spelling.{IsFrame}
use Rattle.frame_rules.specs.Whole.{has_width}
use Rattle.lane_table.specs.declared.row.Want.TheVariants as want
use Rattle.dpf_rules.specs.Walk.{write_bytes}
use Rattle.audit_rules.specs.Audit.{accepts}
use Rattle.audit_rules.specs.Values.{Write}
use Rattle.mailbox_rules.specs.Requests.{Command, Begins, Settles, SettleWrite, Line, entry}
use Rattle.mailbox_rules.specs.Tables.{Settled, result_of, after_line, addresses, boxes_with}
use Rattle.token_rules.specs.Tokens as token
use Rattle.token_rules.specs.Tokens.{World, Oracle}
use Rattle.token_rules.specs.Run.{line_of, reply_applied}
use Rattle.token_rules.specs.Invariant.{Has, state}
use Rattle.token_rules.proofs.Cases.{acks, acks_is, answers}
use Rattle.step_rules.specs.Boxes.{Box, with_write}
use Rattle.step_rules.specs.Leader as leader
use Rattle.step_rules.specs.Leader.{Leader, Row, row_at, AckTurn}
use Rattle.step_rules.specs.LeaderReplies as steps
use Rattle.step_tokens.specs.LeaderRows.{bare_phase}
use Rattle.run_rules.specs.Book.{Book, wants, place, table_at}
use Rattle.run_rules.specs.Values.{root_at, part_at, write_at, closing_at, accepted_at, counted_at, box_at, boxes_at, shares_at}
use Rattle.run_rules.specs.Frames.{frame_with, frame_of, command_body, reply_with, reply_body, rejected, result_at, answer_with, answer_at, last_in}
use Rattle.run_rules.specs.Follows.{LeaderHolds, LeaderRow, IsIssued}
use Rattle.run_rules.specs.Laws.{ComesFollows}
use Rattle.run_rules.proofs.Effects.{write_effect}
use Rattle.run_rules.proofs.HelperRegisters.{shares_next}
use Rattle.run_rules.proofs.LeaderClients.{row_of}
use Rattle.run_rules.proofs.LeaderReplies.{applied, applied_follows}
use Rattle.run_rules.proofs.WriteLeaderCounts.{place_in, entry_writes, shares_count, counted_until}
use Rattle.run_rules.proofs.WriteLeaderRanges.{WriteIs, closing_is}
use Rattle.run_rules.proofs.WriteLeaderReplies.{AppliesSo, replied_follows, entry_line, journal_line, command_there, held_at}

-- ---- what the helper replied, and what the client is answered

abbrev pub settled_reply : Bool → PlainBody
settled_reply true = frame.LinkReply frame.ReplyAccepted
settled_reply false = frame.LinkReply frame.ReplyRejected

abbrev pub settled_answer : Book → ℕ → ℕ → Bool → PlainBody
settled_answer b c s true = frame.Accepted
settled_answer b c s false = rejected (closing_at b 0 c s) (closing_at b 1 c s)

settled_result : (b : Book) (server c s i : ℕ) → WriteIs b c s → result_at b server i (line_of c s Settles) ≡ Settled (accepted_at b c s)
unfolding result_at result_of
settled_result b server c s i h = rw (h.is) refl

settled_body : (b : Book) (c s i : ℕ) → WriteIs b c s
    → reply_body b i (line_of c s Settles) ≡ settled_reply (accepted_at b c s)
unfolding reply_with
settled_body b c s i h = ap (reply_with b i (line_of c s Settles)) (settled_result b 1 c s i h) ∙ by_accepted (accepted_at b c s)
  where
    by_accepted : (t : Bool) → reply_with b i (line_of c s Settles) (Settled t) ≡ settled_reply t
    by_accepted true = refl
    by_accepted false = refl

-- the answer to a write
pub settled_answered : (b : Book) (c s : ℕ) → WriteIs b c s → answer_at b c s ≡ settled_answer b c s (accepted_at b c s)
unfolding answer_at answer_with
settled_answered b c s h =
    ap answer_by (ap last_in h.is)
    ∙ ap (answer_with b i (line_of c s Settles) (result_at b 0 i (line_of c s Settles))) (settled_result b 1 c s i h)
    ∙ by_accepted (accepted_at b c s)
  where
    i : ℕ
    i = place b c s Settles

    answer_by : Command → PlainBody
    answer_by y = answer_with b (place b c s y) (line_of c s y) (result_at b 0 (place b c s y) (line_of c s y)) (result_at b 1 (place b c s y) (line_of c s y))

    by_accepted : (t : Bool) → answer_with b i (line_of c s Settles) (result_at b 0 i (line_of c s Settles)) (Settled t) ≡ settled_answer b c s t
    by_accepted true = refl
    by_accepted false = refl

settled_spelled : (b : Book) (c s : ℕ) (t : Bool) → WriteIs b c s → c < 2 ^ 16 → s < 2 ^ 32 → 1 ≤ s
    → IsFrame (frame_with c s 0 (settled_answer b c s t))
settled_spelled b c s true write lane serial first =
    record { lane = lane; serial = serial; addressed = first; link = omega arith; linked = refl; body = tt }
settled_spelled b c s false write lane serial first =
    let zero = closing_is b c s write 0 in
    let one = closing_is b c s write 1 in
    record { lane = lane; serial = serial; addressed = first; link = omega arith; linked = refl; body = (zero.o, (one.o, (zero.tau, one.tau))) }

-- ---- the row that waits for it

pub record SettleWaits (b : Book) (c s : ℕ) (r : Row) : Type 0 where
  pub serial : r.serial ≡ s
  pub number : ℕ
  pub stage : r.stage ≡ leader.Settling number (write_at b 0 c s) (closing_at b 0 c s) (closing_at b 1 c s)

settle_waits : (b : Book) (c s : ℕ) (commands : List Line) (i : ℕ) (r : Row) (x : token.Row) → LeaderRow b c r x → x.serial ≡ s
    → x.phase ≡ token.Auditing → IsIssued commands c r.serial r.stage
    → slice_get commands i ≡ Some (line_of c s Settles) → SettleWaits b c s r
settle_waits b c s commands i r x h serial phase issued there =
    let same : r.serial ≡ s = ap (λ y. y.serial) h.bare ∙ serial in
    at_stage r.stage refl (subst (λ n. LeaderHolds b c n r.stage) same h.holds) (subst (λ n. IsIssued commands c n r.stage) same issued) (ap (λ y. y.phase) h.bare ∙ phase) same
  where
    at_stage : (stage : leader.Stage) → r.stage ≡ stage → LeaderHolds b c s stage → IsIssued commands c s stage
        → bare_phase stage ≡ token.Auditing → r.serial ≡ s → SettleWaits b c s r
    at_stage (leader.Settling number write own other) is k j e same =
        record {
          serial = same;
          number = number;
          stage = is ∙ ap (λ w. leader.Settling number w own other) k.0 ∙ ap (λ x. leader.Settling number (write_at b 0 c s) x other) k.1 ∙ ap (leader.Settling number (write_at b 0 c s) (closing_at b 0 c s)) k.2;
        }
    at_stage (leader.Auditing number write share sigma opened) is k j e same = absurd (j i there)
    at_stage leader.Idle is k j e same = absurd (cc e)
    at_stage (leader.Waiting number asked) is k j e same = absurd (cc e)
    at_stage (leader.Challenged write kept) is k j e same = absurd (cc e)
    at_stage (leader.Done asked kept) is k j e same = absurd (cc e)

-- ---- it is applied

abbrev pub settled_boxes : Book → ℕ → ℕ → List Box → Bool → List Box
settled_boxes b c s boxes true = with_write (part_at b c s) 0 (root_at b 0 c s) (length (counted_at b c s)) boxes
settled_boxes b c s boxes false = boxes

accepted_is : (a : Leader) (c s n number : ℕ) (w : Write) (own other closing : Closing)
    → (row_at a c).stage ≡ leader.Settling number w own other → accepts own other ≡ true
    → steps.if_fits a (steps.fits a (frame_with c s n (frame.LinkSettle closing)) (frame.LinkReply frame.ReplyAccepted) None)
    ≡ applied a c (leader.row s (leader.Done want.Write frame.Accepted)) (with_write w.part 0 w.root w.count a.boxes) frame.Accepted s
unfolding steps.fits steps.by_command steps.accepted
accepted_is a c s n number w own other closing stage e = rw (stage, e) refl

rejected_is : (a : Leader) (c s n number : ℕ) (w : Write) (own other closing : Closing)
    → (row_at a c).stage ≡ leader.Settling number w own other → accepts own other ≡ false
    → steps.if_fits a (steps.fits a (frame_with c s n (frame.LinkSettle closing)) (frame.LinkReply frame.ReplyRejected) None)
    ≡ applied a c (leader.row s (leader.Done want.Write (rejected own other))) a.boxes (rejected own other) s
unfolding steps.fits steps.by_command steps.rejected
rejected_is a c s n number w own other closing stage e = rw (stage, e) refl

pub settled_is : (b : Book) (a : Leader) (c s n number : ℕ) (closing : Closing) (t : Bool) → accepted_at b c s ≡ t
    → (row_at a c).stage ≡ leader.Settling number (write_at b 0 c s) (closing_at b 0 c s) (closing_at b 1 c s)
    → steps.if_fits a (steps.fits a (frame_with c s n (frame.LinkSettle closing)) (settled_reply t) (steps.refusal_in (settled_reply t)))
    ≡ applied a c (leader.row s (leader.Done want.Write (settled_answer b c s t))) (settled_boxes b c s a.boxes t) (settled_answer b c s t) s
unfolding write_at
settled_is b a c s n number closing true e stage = accepted_is a c s n number (write_at b 0 c s) (closing_at b 0 c s) (closing_at b 1 c s) closing stage e
settled_is b a c s n number closing false e stage = rejected_is a c s n number (write_at b 0 c s) (closing_at b 0 c s) (closing_at b 1 c s) closing stage e

-- its boxes are those of the shares after the entry
pub settled_shares : (b : Book) (c s i : ℕ) (boxes : List Box) (t : Bool) → accepted_at b c s ≡ t → boxes ≡ boxes_at b 0 i
    → (shares_at b 0 i).count c ≡ length (counted_at b c s)
    → slice_get b.entries i ≡ Some (entry (line_of c s Settles) SettleWrite)
    → settled_boxes b c s boxes t ≡ boxes_at b 0 (i + 1)
unfolding after_line with_write
settled_shares b c s i boxes true e same count is =
    let ms = (shares_at b 0 i).boxes in
    let adds = write_bytes (part_at b c s) 0 (root_at b 0 c s) in
    ap (with_write (part_at b c s) 0 (root_at b 0 c s) (length (counted_at b c s))) same
    ∙ write_effect b 0 (length (counted_at b c s)) adds ms
    ∙ ap (λ n. map (λ m. box_at b 0 m) (boxes_with adds n ms)) (sym count)
    ∙ ap (λ t. map (λ m. box_at b 0 m) (cond t (record (shares_at b 0 i) { boxes = boxes_with adds ((shares_at b 0 i).count c) ms }) (shares_at b 0 i)).boxes) (sym e)
    ∙ ap (λ u. map (λ m. box_at b 0 m) u.boxes) (sym (shares_next b 0 i (entry (line_of c s Settles) SettleWrite) is))
settled_shares b c s i boxes false e same count is =
    let ms = (shares_at b 0 i).boxes in
    let adds = write_bytes (part_at b c s) 0 (root_at b 0 c s) in
    same
    ∙ ap (λ t. map (λ m. box_at b 0 m) (cond t (record (shares_at b 0 i) { boxes = boxes_with adds ((shares_at b 0 i).count c) ms }) (shares_at b 0 i)).boxes) (sym e)
    ∙ ap (λ u. map (λ m. box_at b 0 m) u.boxes) (sym (shares_next b 0 i (entry (line_of c s Settles) SettleWrite) is))

settle_command : (b : Book) (c s i : ℕ)
    → command_body b i (line_of c s Settles) Settles ≡ frame.LinkSettle (closing_at b 0 c s)
unfolding command_body
settle_command b c s i = refl

settle_acks : (o : Oracle) (w : World) (c s : ℕ) → w.foreign c ≡ false
    → reply_applied o w (line_of c s Settles) ≡ answers w c s token.Done
unfolding reply_applied acks
settle_acks o w c s honest = rw honest (acks_is w c s Settles)

pub settled_applies : (b : Book) (c s : ℕ) → WriteIs b c s → AppliesSo b (line_of c s Settles)
unfolding frame_of
settled_applies b c s write o f v w k h low there carried =
    let a = f.leader in
    let i = w.acknowledged in
    let hon = write.honest in
    let honest : w.foreign c ≡ false = ap (λ foreign. foreign c) h.foreign ∙ hon in
    let held = held_at b v w c s Settles k honest there carried in
    let first = held.first in
    let hr = row_of b f w c h hon low in
    let waits = settle_waits b c s w.commands i (row_at a c) (w.lanes c).leader hr (held.fits.leader_serial ∙ held.serial) held.fits.leader_phase
    (h.leader.issued c low hon) there in
    let small = hr.small in
    let serial = waits.serial in
    let serial_small : s < 2 ^ 32 = omega (arith, small, serial) in
    let lanes = k.sound.limits.2.1 in
    let lane_small : c < 2 ^ 16 = omega (arith, low, lanes) in
    let t = accepted_at b c s in
    let kept = settled_answer b c s t in
    let answer = settled_answered b c s write in
    let fr = settled_spelled b c s t write lane_small serial_small first in
    let line = journal_line b v w (line_of c s Settles) k there carried in
    let e = entry_writes b v c s i Settles write.target write.message k.whole hon write.is tt line in
    let begun = subst (λ n. Has (state w k.lawful.stages) (line_of c n Begins)) held.serial held.made.0 in
    let past = begun.acknowledged in
    let begin_there = command_there b w begun.place (line_of c s Begins) k.within begun.is in
    let at = place_in b v c s begun.place Begins k.whole hon begin_there in
    let begin = entry_writes b v c s begun.place Begins write.target write.message k.whole hon write.is tt
    (entry_line b v w begun.place (line_of c s Begins) k begun.is (omega (arith, past, carried))) in
    let counted = (counted_until b v c s begun.place i Settles k.whole hon begin line (omega arith)).1 in
    let count : (shares_at b 0 i).count c ≡ length (counted_at b c s) = shares_count b 0 i c ∙ counted ∙ ap (λ n. length (addresses (table_at b n).boxes)) (sym at) in
    rw (
      settled_body b c s i write,
      settle_command b c s i,
      settled_is b a c s (i + 1) waits.number (closing_at b 0 c s) t refl waits.stage,
      settle_acks o w c s honest,
    )
    (applied_follows b f w c s token.Done (token.Answer c s) (leader.row s (leader.Done want.Write kept)) (settled_boxes b c s a.boxes t) kept h hon low refl
    (record { bare = refl; small = serial_small; want = λ pos. sym (ap wants write.is); holds = (sym answer, fr) })
    tt
    (record { entry = entry (line_of c s Settles) SettleWrite; is = e; lane = refl })
    (settled_shares b c s i a.boxes t refl h.leader.boxes count e)
    (record { lane = low; frame = frame_with c s 0 kept; is = ap (λ x. Some (frame_with c s 0 x)) answer; spelled = record { at = refl; bytes = refl; is_frame = fr } }))

settled_width : (width : ℕ) (t : Bool) → has_width width (settled_reply t) ≡ true
settled_width width true = refl
settled_width width false = refl

pub settled_replied : (b : Book) (c s n : ℕ) → WriteIs b c s → ComesFollows b (token.Replied n (line_of c s Settles))
settled_replied b c s n write =
    replied_follows b n (line_of c s Settles) write.honest
    (λ i. ap (has_width b.settings.width) (settled_body b c s i write) ∙ settled_width b.settings.width (accepted_at b c s)) (settled_applies b c s write)
