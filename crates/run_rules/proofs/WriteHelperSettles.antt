-- The settle of a client's write at the helper, in both runs.
use Rattle.std.proofs.Common.{◌≡◌, ℕ, ◌+◌, cond, true, false, Bool, List, [], ◌∷◌, ◌++◌, length, map, Some, slice_get, refl, sym, ap, ◌∙◌, subst, arith}
use Rattle.frame_rules.specs.Frames as frame
use Rattle.frame_rules.specs.Frames.{PlainFrame, PlainReply}
use Rattle.frame_rules.specs.Spelling.{IsFrame}
use Rattle.frame_rules.specs.Whole.{has_width}
use Rattle.lane_table.specs.declared.row.Want.TheVariants as want
use Rattle.mailbox_rules.specs.Requests.{Write, Settles, entry, SettleWrite, Line}
use Rattle.mailbox_rules.specs.Tables.{Settled, Table, boxes_with, after_line, result_of}
use Rattle.token_rules.specs.Tokens as token
use Rattle.token_rules.specs.Tokens.{World}
use Rattle.token_rules.specs.Run.{line_of, asked_operation}
use Rattle.token_rules.specs.Laws.{IsSent}
use Rattle.step_rules.specs.Boxes.{Box, with_write}
use Rattle.step_rules.specs.Helper as helper
use Rattle.step_rules.specs.Helper.{Server, row_at}
use Rattle.step_rules.specs.HelperCommands as steps
use Rattle.step_rules.specs.HelperCommands.{Effect, effect}
use Rattle.run_rules.specs.Letters.{FrameWorld}
use Rattle.run_rules.specs.Book.{Book, request_of, wants}
use Rattle.run_rules.specs.Values.{root_at, part_at, counted_at, write_at, closing_at, accepted_at, writes_at, shares_at, boxes_at, box_at}
use Rattle.run_rules.specs.Frames.{frame_with, command_body, reply_body, reply_with, result_at}
use Rattle.run_rules.specs.Follows.{Within, Follows}
use Rattle.run_rules.specs.Known.{Known}
use Rattle.run_rules.specs.Laws.{ComesFollows}
use Rattle.run_rules.proofs.Effects.{write_effect}
use Rattle.run_rules.proofs.HelperCommands.{left_by, draws_same}
use Rattle.run_rules.proofs.HelperRegisters.{shares_next}
use Rattle.run_rules.proofs.WriteLeaderRanges.{WriteIs}
use Rattle.run_rules.proofs.WriteHelperCarried.{ordered, Made, Ready, ready_effect, ready_holds}
use Rattle.run_rules.proofs.WriteHelperWrites.{is_write, does_settle, audited_write}
use Rattle.run_rules.proofs.WriteHelperBefore.{began, count_is}
use Rattle.run_rules.proofs.WriteHelperOrders.{honest_ordered}

abbrev line : ℕ → ℕ → Line
line c s = line_of c s Settles

-- what is answered, and the boxes, by whether the write is accepted
abbrev pub judged : Bool → PlainReply
judged accepted = cond accepted frame.ReplyAccepted frame.ReplyRejected

abbrev pub written : Book → ℕ → ℕ → List Box → List Box
written b c s boxes =
    cond (accepted_at b c s) (with_write (part_at b c s) 1 (root_at b 1 c s) (length (counted_at b c s)) boxes) boxes

-- ---- what the helper's step makes

pub settle_effect : (b : Book) (h : Server) (c s i : ℕ) (stage : helper.Stage)
    → stage ≡ helper.Audited (write_at b 1 c s) (closing_at b 1 c s)
    → steps.command h (ordered b i (line c s)) (command_body b i (line c s) Settles) stage
    ≡ effect (left_by h c (helper.row s (helper.Done want.Write)) (written b c s h.boxes) h.draws) (frame.LinkReply (judged (accepted_at b c s)))
unfolding command_body steps.command steps.settle write_at
settle_effect b h c s i stage e = rw e (by_test (accepted_at b c s))
  where
    done : Server
    done = steps.done h (ordered b i (line c s)) want.Write

    new : List Box
    new = with_write (part_at b c s) 1 (root_at b 1 c s) (length (counted_at b c s)) h.boxes

    by_test : (t : Bool) → cond t (steps.replies_with (record done { boxes = new }) frame.ReplyAccepted) (steps.replies_with done frame.ReplyRejected)
        ≡ effect (left_by h c (helper.row s (helper.Done want.Write)) (cond t new h.boxes) h.draws) (frame.LinkReply (judged t))
    by_test true = refl
    by_test false = refl

-- ---- what comes of it in the table of shares

settle_result : (b : Book) (i c s target : ℕ) (message : List ℕ) → request_of b c s ≡ Some (Write target message)
    → result_at b 1 i (line c s) ≡ Settled (accepted_at b c s)
unfolding result_at result_of
settle_result b i c s target message q = rw q refl

settle_reply : (b : Book) (i c s target : ℕ) (message : List ℕ) → request_of b c s ≡ Some (Write target message)
    → reply_body b i (line c s) ≡ frame.LinkReply (judged (accepted_at b c s))
unfolding reply_with
settle_reply b i c s target message q =
    ap (reply_with b i (line c s)) (settle_result b i c s target message q) ∙ by_test (accepted_at b c s)
  where
    by_test : (t : Bool) → reply_with b i (line c s) (Settled t) ≡ frame.LinkReply (judged t)
    by_test true = refl
    by_test false = refl

-- the boxes get the write's bytes, where it is accepted
pub settle_boxes : (b : Book) (i c s : ℕ) → slice_get b.entries i ≡ Some (entry (line c s) SettleWrite)
    → (shares_at b 1 i).count c ≡ length (counted_at b c s)
    → written b c s (boxes_at b 1 i) ≡ boxes_at b 1 (i + 1)
unfolding after_line with_write
settle_boxes b i c s e count =
    by_test (accepted_at b c s)
    ∙ ap (λ n. map (λ m. box_at b 1 m) (after n).boxes) (sym count)
    ∙ ap (λ (t : Table). map (λ m. box_at b 1 m) t.boxes) (sym (shares_next b 1 i (entry (line c s) SettleWrite) e))
  where
    t : Table
    t = shares_at b 1 i

    adds : ℕ → List ℕ
    adds = (writes_at b 1).adds c s

    after : ℕ → Table
    after n = cond (accepted_at b c s) (record t { boxes = boxes_with adds n t.boxes }) t

    by_test : (accepted : Bool)
        → cond accepted (with_write (part_at b c s) 1 (root_at b 1 c s) (length (counted_at b c s)) (boxes_at b 1 i)) (boxes_at b 1 i)
        ≡ map (λ m. box_at b 1 m) (cond accepted (record t { boxes = boxes_with adds (length (counted_at b c s)) t.boxes }) t).boxes
    by_test true = write_effect b 1 (length (counted_at b c s)) adds t.boxes
    by_test false = refl

settle_does : (b : Book) (w : World) (c s : ℕ) → Within b w → IsSent w (line c s)
    → asked_operation w (line c s) ≡ SettleWrite
settle_does b w c s within sent = does_settle b w c s (is_write b w (line c s) within sent refl)

-- ---- all of it

module _ (b : Book) (f : FrameWorld) (v w : World) (c s : ℕ) (write : WriteIs b c s) (known : Known b v w) (h : Follows b f w)
    (due : slice_get w.commands w.carried ≡ Some (line c s)) (ready : Ready b f w (line c s))
    (entered : slice_get b.entries w.carried ≡ Some (entry (line c s) SettleWrite)) where
  abbrev server : Server
  server = f.helper.server

  count : (shares_at b 1 w.carried).count c ≡ length (counted_at b c s)
  count =
      let honest = ap (λ foreign. foreign c) h.foreign ∙ write.honest in
      count_is b v w c s Settles SettleWrite known write (began b v w c s Settles known honest due tt) entered (omega arith)

  stage : (row_at server c).stage ≡ helper.Audited (write_at b 1 c s) (closing_at b 1 c s)
  stage = audited_write b c s (row_at server c).stage (ready_holds b f w (line c s) ready) ready.phase

  settle_made : Made b server (line c s) w.carried (w.journal ++ entry (line c s) SettleWrite ∷ []) (steps.carries_out server (ordered b w.carried (line c s)))
  settle_made = record {
    stage = helper.Done want.Write;
    boxes = written b c s server.boxes;
    draws = server.draws;
    body = frame.LinkReply (judged (accepted_at b c s));
    is = ready_effect b f w (line c s) ready ∙ settle_effect b server c s w.carried (row_at server c).stage stage;
    phase = refl;
    want = sym (ap wants write.is);
    holds = tt;
    boxes_is = ap (written b c s) h.helper.boxes ∙ settle_boxes b w.carried c s entered count;
    draws_is = h.helper.draws ∙ draws_same w.journal (entry (line c s) SettleWrite) refl;
    body_is = sym (settle_reply b w.carried c s write.target write.message write.is);
    is_frame = by_test (accepted_at b c s);
  }
    where
      by_test : (t : Bool) → IsFrame (frame_with c s (w.carried + 1) (frame.LinkReply (judged t)))
      by_test true = record { lane = ready.lane; serial = ready.small; addressed = ready.first; link = ready.number; linked = omega arith; body = tt }
      by_test false = record { lane = ready.lane; serial = ready.small; addressed = ready.first; link = ready.number; linked = omega arith; body = tt }

settle_wide : (b : Book) (i c s : ℕ) → has_width b.settings.width (command_body b i (line c s) Settles) ≡ true
unfolding command_body
settle_wide b i c s = refl

-- a settle's frame is read, and the write judged
pub settle_ordered : (b : Book) (n c s : ℕ) → WriteIs b c s → ComesFollows b (token.Ordered n (line c s))
settle_ordered b n c s write = honest_ordered b n (line c s) write.honest (record {
  wide = λ v w i known sent. settle_wide b i c s;
  made = λ f v w known h low due ready entered.
      let is = settle_does b w c s known.within ready.sent in
      subst (λ does. Made b f.helper.server (line c s) w.carried (w.journal ++ entry (line c s) does ∷ []) (steps.carries_out f.helper.server (ordered b w.carried (line c s)))) (sym is)
      (settle_made b f v w c s write known h due ready (entered ∙ ap (λ does. Some (entry (line c s) does)) is));
})
