-- The audit of a client's write at the helper, in both runs.
use Rattle.std.proofs.Common.{◌≡◌, ℕ, ◌+◌, true, List, [], ◌∷◌, ◌++◌, length, take, map, Some, slice_get, refl, sym, ap, ◌∙◌, subst, arith, lit<}
use Rattle.frame_rules.specs.Frames as frame
use Rattle.frame_rules.specs.Spelling.{IsBody}
use Rattle.frame_rules.specs.Whole.{has_width}
use Rattle.audit_rules.specs.Values.{Values, values}
use Rattle.mailbox_rules.specs.Requests.{Write, Audits, entry, AuditWrite, Line}
use Rattle.mailbox_rules.specs.Tables.{WasAudited, Table, after_line, result_of}
use Rattle.token_rules.specs.Tokens as token
use Rattle.token_rules.specs.Tokens.{World}
use Rattle.token_rules.specs.Run.{line_of, asked_operation}
use Rattle.token_rules.specs.Laws.{IsSent}
use Rattle.step_rules.specs.Boxes.{addresses_of}
use Rattle.step_rules.specs.Helper as helper
use Rattle.step_rules.specs.Helper.{Server, row_at}
use Rattle.step_rules.specs.HelperCommands as steps
use Rattle.step_rules.specs.HelperCommands.{Effect, effect}
use Rattle.run_rules.specs.Letters.{FrameWorld}
use Rattle.run_rules.specs.Book.{Book, request_of, wants}
use Rattle.run_rules.specs.Values.{counted_at, write_at, share_at, sigma_at, opened_at, closing_at, boxes_at, box_at}
use Rattle.run_rules.specs.Frames.{command_body, reply_body, reply_with, result_at}
use Rattle.run_rules.specs.Follows.{Within, Follows}
use Rattle.run_rules.specs.Known.{Known}
use Rattle.run_rules.specs.Laws.{ComesFollows}
use Rattle.run_rules.proofs.HelperCommands.{left_by, draws_same}
use Rattle.run_rules.proofs.HelperRegisters.{shares_next}
use Rattle.run_rules.proofs.WriteLeaderRanges.{WriteIs, opened_is, closing_is}
use Rattle.run_rules.proofs.WriteHelperCarried.{ordered, Made, Ready, ready_effect, ready_holds}
use Rattle.run_rules.proofs.WriteHelperWrites.{is_write, does_audit, proved_write}
use Rattle.run_rules.proofs.WriteHelperBefore.{began, counted_first}
use Rattle.run_rules.proofs.WriteHelperOrders.{honest_ordered}

abbrev line : ℕ → ℕ → Line
line c s = line_of c s Audits

-- ---- what the helper's step makes

abbrev pub audited_with : Book → Server → ℕ → ℕ → Values → Effect
audited_with b h c s v =
    effect (left_by h c (helper.row s (helper.Audited (write_at b 1 c s) v.closing)) h.boxes h.draws) (frame.LinkReply (frame.ReplyAudited v.opened v.closing))

pub audit_effect : (b : Book) (h : Server) (c s i : ℕ) (stage : helper.Stage)
    → stage ≡ helper.Proved (write_at b 1 c s) (share_at b 1 c s)
    → steps.command h (ordered b i (line c s)) (command_body b i (line c s) Audits) stage
    ≡ audited_with b h c s (values 1 (write_at b 1 c s) (steps.counted h (write_at b 1 c s)) (share_at b 1 c s) (sigma_at b c s) (opened_at b 0 c s))
unfolding command_body steps.command steps.audit
audit_effect b h c s i stage e = rw e refl

-- its values are those of the history
pub values_are : (b : Book) (h : Server) (c s : ℕ) → take (length (counted_at b c s)) (addresses_of h.boxes) ≡ counted_at b c s
    → values 1 (write_at b 1 c s) (steps.counted h (write_at b 1 c s)) (share_at b 1 c s) (sigma_at b c s) (opened_at b 0 c s)
    ≡ record { opened = opened_at b 1 c s; closing = closing_at b 1 c s }
unfolding write_at values opened_at closing_at
values_are b h c s e =
    ap (λ addresses. values 1 (write_at b 1 c s) addresses (share_at b 1 c s) (sigma_at b c s) (opened_at b 0 c s)) e

-- ---- what comes of it in the table of shares

is_audited : (b : Book) (i c s target : ℕ) (message : List ℕ) → request_of b c s ≡ Some (Write target message)
    → result_at b 1 i (line c s) ≡ WasAudited
unfolding result_at result_of
is_audited b i c s target message q = rw q refl

audit_reply : (b : Book) (i c s target : ℕ) (message : List ℕ) → request_of b c s ≡ Some (Write target message)
    → reply_body b i (line c s) ≡ frame.LinkReply (frame.ReplyAudited (opened_at b 1 c s) (closing_at b 1 c s))
unfolding reply_with
audit_reply b i c s target message q = ap (reply_with b i (line c s)) (is_audited b i c s target message q)

pub audit_boxes : (b : Book) (i c s : ℕ) → slice_get b.entries i ≡ Some (entry (line c s) AuditWrite)
    → boxes_at b 1 i ≡ boxes_at b 1 (i + 1)
unfolding after_line
audit_boxes b i c s e = ap (λ (t : Table). map (λ m. box_at b 1 m) t.boxes) (sym (shares_next b 1 i (entry (line c s) AuditWrite) e))

-- the reply has a spelling
audited_body : (b : Book) (c s : ℕ) → WriteIs b c s
    → IsBody (frame.LinkReply (frame.ReplyAudited (opened_at b 1 c s) (closing_at b 1 c s)))
audited_body b c s write = (opened_is b c s write 1 (lit< tt), closing_is b c s write 1)

audit_does : (b : Book) (w : World) (c s : ℕ) → Within b w → IsSent w (line c s)
    → asked_operation w (line c s) ≡ AuditWrite
audit_does b w c s within sent = does_audit b w c s (is_write b w (line c s) within sent refl)

-- ---- all of it

module _ (b : Book) (f : FrameWorld) (v w : World) (c s : ℕ) (write : WriteIs b c s) (known : Known b v w) (h : Follows b f w)
    (due : slice_get w.commands w.carried ≡ Some (line c s)) (ready : Ready b f w (line c s))
    (entered : slice_get b.entries w.carried ≡ Some (entry (line c s) AuditWrite)) where
  abbrev server : Server
  server = f.helper.server

  counted : take (length (counted_at b c s)) (addresses_of server.boxes) ≡ counted_at b c s
  counted =
      let honest = ap (λ foreign. foreign c) h.foreign ∙ write.honest in
      let before = (began b v w c s Audits known honest due tt).before in
      counted_first b server w c s w.carried h.helper.boxes (omega (arith, before))

  stage : (row_at server c).stage ≡ helper.Proved (write_at b 1 c s) (share_at b 1 c s)
  stage = proved_write b c s (row_at server c).stage (ready_holds b f w (line c s) ready) ready.phase

  audit_made : Made b server (line c s) w.carried (w.journal ++ entry (line c s) AuditWrite ∷ []) (steps.carries_out server (ordered b w.carried (line c s)))
  audit_made = record {
    stage = helper.Audited (write_at b 1 c s) (closing_at b 1 c s);
    boxes = server.boxes;
    draws = server.draws;
    body = frame.LinkReply (frame.ReplyAudited (opened_at b 1 c s) (closing_at b 1 c s));
    is =
        ready_effect b f w (line c s) ready
        ∙ audit_effect b server c s w.carried (row_at server c).stage stage
        ∙ ap (audited_with b server c s) (values_are b server c s counted);
    phase = refl;
    want = sym (ap wants write.is);
    holds = (refl, refl);
    boxes_is = h.helper.boxes ∙ audit_boxes b w.carried c s entered;
    draws_is = h.helper.draws ∙ draws_same w.journal (entry (line c s) AuditWrite) refl;
    body_is = sym (audit_reply b w.carried c s write.target write.message write.is);
    is_frame = record {
      lane = ready.lane;
      serial = ready.small;
      addressed = ready.first;
      link = ready.number;
      linked = omega arith;
      body = audited_body b c s write;
    };
  }

audit_wide : (b : Book) (i c s : ℕ) → has_width b.settings.width (command_body b i (line c s) Audits) ≡ true
unfolding command_body
audit_wide b i c s = refl

-- an audit's frame is read, and the audit carried out
pub audit_ordered : (b : Book) (n c s : ℕ) → WriteIs b c s → ComesFollows b (token.Ordered n (line c s))
audit_ordered b n c s write = honest_ordered b n (line c s) write.honest (record {
  wide = λ v w i known sent. audit_wide b i c s;
  made = λ f v w known h low due ready entered.
      let is = audit_does b w c s known.within ready.sent in
      subst (λ does. Made b f.helper.server (line c s) w.carried (w.journal ++ entry (line c s) does ∷ []) (steps.carries_out f.helper.server (ordered b w.carried (line c s)))) (sym is)
      (audit_made b f v w c s write known h due ready (entered ∙ ap (λ does. Some (entry (line c s) does)) is));
})
