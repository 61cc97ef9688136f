-- The reply to each command of a foreign lane at the leader.
use Rattle.std.proofs.Common.{◌≡◌, ◌∙◌, ℕ, ◌<◌, ◌≤◌, ◌^◌, ◌+◌, cond, nat_eq, nat_le, true, false, Bool, List, length, map, Option, Some, None, slice_get, option_map, refl, sym, ap, subst, arith, add-one}
use Rattle.std.proofs.lemmas.List.{length-map}
use Rattle.std.proofs.lemmas.List.Quantifiers.{position-Some}
use Rattle.std.proofs.lemmas.Option.{slice_get-map}
use Rattle.express_words.specs.Bytes.{xor_bytes}
use Rattle.express_words.specs.Limits.{IsWidth}
use Rattle.express_words.specs.Ranges.{IsClosing}
use Rattle.dpf_rules.specs.Expansion.{mask}
use Rattle.express_words.specs.declared.audit.ProofShare.{ProofShare}
use Rattle.express_words.specs.declared.audit.Openings.{Openings}
use Rattle.express_words.specs.declared.audit.Closing.{Closing}
use Rattle.frame_rules.specs.Frames as frame
use Rattle.frame_rules.specs.Frames.{PlainFrame, PlainBody}
use Rattle.frame_rules.specs.Spelling.{IsFrame}
use Rattle.lane_table.specs.declared.row.Want.TheVariants as want
use Rattle.audit_rules.specs.Values as audit
use Rattle.audit_rules.specs.Values.{ckey_of}
use Rattle.mailbox_rules.specs.Requests.{Registers, Begins, Audits, Settles, Reads, Retires, entry, AddBox, BeginWrite, AuditWrite, SettleWrite, ReadBox, RetireBox}
use Rattle.mailbox_rules.specs.Tables as tables
use Rattle.mailbox_rules.specs.Tables.{Mailbox, Table, Result, result_of, after_line, after_register, register_result, addresses, box_of, boxes_cleared, no_writes}
use Rattle.mailbox_rules.proofs.Folds.{parts_grow}
use Rattle.token_rules.specs.Tokens.{World}
use Rattle.token_rules.specs.Run.{line_of}
use Rattle.step_rules.specs.Boxes.{Box, with_read}
use Rattle.step_rules.specs.Leader as leader
use Rattle.step_rules.specs.Leader.{Leader, Row, Stage, Asked, Registering, Writing, Reading, Retiring, AckTurn, row, row_at, idle}
use Rattle.step_rules.specs.LeaderReplies as steps
use Rattle.step_tokens.specs.LeaderRows.{bare_asked}
use Rattle.run_rules.specs.Letters.{FrameWorld}
use Rattle.run_rules.specs.Book.{Book, place, table_at, leaders_draw, helpers_draw}
use Rattle.run_rules.specs.Values.{key_at, root_at, part_at, ckey_at, write_at, opened_at, closing_at, accepted_at, box_at, boxes_at, shares_at, writes_at}
use Rattle.run_rules.specs.Frames.{frame_with, reply_with, masked_at, key_in}
use Rattle.run_rules.specs.Follows.{LeaderHolds, ForeignLeaderHolds, ForeignAsked, Awaits, StillToIssue, IsUnissued, BegunAt, WasBegun, Follows}
use Rattle.run_rules.specs.Known.{Known}
use Rattle.run_rules.proofs.Counts.{count_begun, begun_later}
use Rattle.run_rules.proofs.HelperRegisters.{shares_next, shares_few}
use Rattle.run_rules.proofs.LeaderRegistered.{WaitsWith, reply_made, same_box, same_length}
use Rattle.run_rules.proofs.LeaderReplies.{applied}
use Rattle.run_rules.proofs.ForeignHelperWrites.{closing_is}
use Rattle.run_rules.proofs.ForeignHelperOrdered.{foreign_place}
use Rattle.run_rules.proofs.ForeignLeaderApplied.{Oldest, foreign_applied_follows, foreign_settles_follow}
use Rattle.run_rules.proofs.ForeignLeaderReplies.{LeaderAcks, Answered, Settled, row_is, awaited, holds, done_acks}
use Rattle.run_rules.proofs.Effects.{read_effect}
use Rattle.run_rules.proofs.Widths.{share_width}
use Rattle.run_rules.proofs.ForeignLeaderBoxes.{other_box}
use Rattle.run_rules.proofs.ReadBasics.{command_for, link_for, does_for}
use Rattle.run_rules.proofs.ReadCommands.{masked_length}
use Rattle.run_rules.proofs.WriteLeaderBegun.{began_is, written_is}
use Rattle.run_rules.proofs.WriteLeaderCounts.{shares_length, shares_count}
use Rattle.run_rules.proofs.WriteLeaderRanges.{ckey_length}
use Rattle.run_rules.proofs.WriteLeaderSettles.{audited_is, closing_same, audit_boxes}
use Rattle.run_rules.proofs.WriteLeaderSettled.{settled_is, settled_shares, settled_reply, settled_answer, settled_boxes}
use Rattle.run_rules.proofs.WriteLeaderSubmits.{issued_few}

-- ---- a register

same_register : (b : Book) (i address : ℕ)
    → register_result b.settings.boxes (shares_at b 1 i) (box_of address (shares_at b 1 i).boxes)
    ≡ register_result b.settings.boxes (shares_at b 0 i) (box_of address (shares_at b 0 i).boxes)
same_register b i address =
    by_found (box_of address (shares_at b 1 i).boxes)
    ∙ ap (register_result b.settings.boxes (shares_at b 0 i)) (sym (same_box b i address))
  where
    by_found : (found : Option ℕ)
        → register_result b.settings.boxes (shares_at b 1 i) found ≡ register_result b.settings.boxes (shares_at b 0 i) found
    by_found (Some k) = refl
    by_found None = ap (λ n. cond (nat_le b.settings.boxes n) (tables.Full b.settings.boxes) (tables.Registered n)) (sym (same_length b i))

register_waits : (b : Book) (c s address : ℕ) (r : Row) → address ≡ b.brought.address c s → r.serial ≡ s → Awaits Registers r.stage
    → ForeignLeaderHolds b c s r.stage → WaitsWith r s address (key_at b 0 c s)
register_waits b c s address r brought serial waits held = at_stage r.stage refl waits held
  where
    at_asked : (asked : Asked) → bare_asked asked ≡ Registers → ForeignAsked b c s asked → asked ≡ Registering address (key_at b 0 c s)
    at_asked (Registering own key) e k = ap (λ n. Registering n key) (k.0 ∙ sym brought) ∙ ap (Registering address) k.1
    at_asked (Writing root part draw) e k = absurd (cc e)
    at_asked (Reading n) e k = absurd (cc e)
    at_asked (Retiring n) e k = absurd (cc e)

    at_stage : (stage : Stage) → r.stage ≡ stage → Awaits Registers stage → ForeignLeaderHolds b c s stage → WaitsWith r s address (key_at b 0 c s)
    at_stage (leader.Waiting number asked) is e k = record { serial = serial; number = number; stage = is ∙ ap (leader.Waiting number) (at_asked asked e k) }
    at_stage (leader.Auditing number write share sigma opened) is e k = absurd (cc e)
    at_stage (leader.Settling number write own other) is e k = absurd (cc e)
    at_stage leader.Idle is e k = absurd e
    at_stage (leader.Challenged write kept) is e k = absurd e
    at_stage (leader.Done asked kept) is e k = absurd e

module _ (b : Book) (f : FrameWorld) (v w : World) (c s : ℕ) (known : Known b v w) (h : Follows b f w)
    (lane : c < 2 ^ 16) (small : s < 2 ^ 32) (first : 1 ≤ s) where
  abbrev i : ℕ
  i = w.acknowledged

  abbrev a : Leader
  a = f.leader

  pub register_acks : (k : Oldest b f w c s Registers) (address : ℕ) → address ≡ b.brought.address c s
      → slice_get b.entries i ≡ Some (entry (line_of c s Registers) (AddBox address))
      → (body : PlainBody) → body ≡ reply_with b i (line_of c s Registers) (result_of b.settings.boxes (writes_at b 1) (shares_at b 1 i) (line_of c s Registers) (AddBox address))
      → LeaderAcks b f w (line_of c s Registers) (steps.if_fits a (steps.fits a (frame_with c s (i + 1) (frame.LinkRegister address)) body (steps.refusal_in body)))
  unfolding result_of after_line
  register_acks k address brought entered body body_is =
      let t = shares_at b 0 i in
      let found = box_of address t.boxes in
      let waits = awaited b f v w c s Registers known h k lane small first in
      let row_waits = register_waits b c s address (row_at a c) brought waits.0 waits.1 (holds b f v w c s Registers known h k lane small first) in
      let la = h.leader in
      let made = reply_made b a c s address (i + 1) i t (key_at b 0 c s) la.boxes (ap (λ x. x.boxes) la.settings) (ap (λ x. x.width) la.settings) known.sound.limits.1.1 (shares_few b 0 i) refl row_waits
      lane small first found refl
      (λ n e. let below = (position-Some (λ other. nat_eq other address) (addresses t.boxes) n 0 e).0 in let m = length-map t.boxes (λ m. m.address) in omega (arith, below, m)) in
      let body_same : body ≡ reply_with b i (line_of c s Registers) (register_result b.settings.boxes t found) = body_is ∙ ap (reply_with b i (line_of c s Registers)) (same_register b i address) in
      subst (λ z. LeaderAcks b f w (line_of c s Registers) (steps.if_fits a (steps.fits a (frame_with c s (i + 1) (frame.LinkRegister address)) z (steps.refusal_in z)))) (sym body_same)
      (subst (LeaderAcks b f w (line_of c s Registers)) (sym made.is)
      (done_acks b f v w c s Registers known h k lane small first want.Register made.boxes made.kept
      (made.boxes_is ∙ ap (λ u. map (λ m. box_at b 0 m) u.boxes) (sym (shares_next b 0 i (entry (line_of c s Registers) (AddBox address)) entered))) made.frame))

  -- ---- a write's begin

  begin_waits : (k : Oldest b f w c s Begins)
      → (number : ℕ) × ((row_at a c).stage ≡ leader.Waiting number (Writing (root_at b 0 c s) (part_at b c s) (leaders_draw b (place b c s Begins))))
  begin_waits k = at_stage (row_at a c).stage refl (awaited b f v w c s Begins known h k lane small first).1 (holds b f v w c s Begins known h k lane small first)
    where
      at_asked : (asked : Asked) → bare_asked asked ≡ Begins → ForeignAsked b c s asked → asked ≡ Writing (root_at b 0 c s) (part_at b c s) (leaders_draw b (place b c s Begins))
      at_asked (Writing root part draw) e k = ap (λ x. Writing x part draw) k.0 ∙ ap (λ x. Writing (root_at b 0 c s) x draw) k.1 ∙ ap (Writing (root_at b 0 c s) (part_at b c s)) k.2
      at_asked (Registering own key) e k = absurd (cc e)
      at_asked (Reading n) e k = absurd (cc e)
      at_asked (Retiring n) e k = absurd (cc e)

      at_stage : (stage : Stage) → (row_at a c).stage ≡ stage → Awaits Begins stage → ForeignLeaderHolds b c s stage
          → (number : ℕ) × ((row_at a c).stage ≡ leader.Waiting number (Writing (root_at b 0 c s) (part_at b c s) (leaders_draw b (place b c s Begins))))
      at_stage (leader.Waiting number asked) is e k = (number, is ∙ ap (leader.Waiting number) (at_asked asked e k))
      at_stage (leader.Auditing number write share sigma opened) is e k = absurd (cc e)
      at_stage (leader.Settling number write own other) is e k = absurd (cc e)
      at_stage leader.Idle is e k = absurd e
      at_stage (leader.Challenged write kept) is e k = absurd e
      at_stage (leader.Done asked kept) is e k = absurd e

  still_waiting : (k : Oldest b f w c s Begins) → IsUnissued w.commands c s Audits × IsUnissued w.commands c s Settles
  still_waiting k =
      let waits = begin_waits k in
      let serial = (awaited b f v w c s Begins known h k lane small first).0 in
      let still = h.leader.foreign.still c k.low k.foreign in
      subst (λ n. StillToIssue w.commands c n (leader.Waiting waits.0 (Writing (root_at b 0 c s) (part_at b c s) (leaders_draw b (place b c s Begins))))) serial
      (subst (StillToIssue w.commands c (row_at a c).serial) waits.1 still)

  pub begin_acks : (k : Oldest b f w c s Begins) (draw part : List ℕ) → draw ≡ leaders_draw b i → part ≡ part_at b c s
      → slice_get b.entries i ≡ Some (entry (line_of c s Begins) BeginWrite)
      → (body : PlainBody) → body ≡ frame.LinkBegun (length (shares_at b 1 i).boxes) (helpers_draw b i)
      → LeaderAcks b f w (line_of c s Begins) (steps.if_fits a (steps.fits a (frame_with c s (i + 1) (frame.LinkBegin draw part)) body (steps.refusal_in body)))
  unfolding after_line write_at
  begin_acks k draw part draw_is part_is entered body body_is =
      let waits = begin_waits k in
      let at : place b c s Begins ≡ i = foreign_place b w a.rows c s i Begins h.leader.foreign known.within k.foreign k.there in
      let drawn = leaders_draw b (place b c s Begins) in
      let order : frame.LinkBegin draw part ≡ frame.LinkBegin drawn (part_at b c s) =
      ap (λ d. frame.LinkBegin d part) (draw_is ∙ ap (leaders_draw b) (sym at)) ∙ ap (frame.LinkBegin drawn) part_is in
      let count = length (shares_at b 1 i).boxes in
      let count_is : count ≡ length (addresses (table_at b i).boxes) = shares_length b 1 i in
      let mine : count ≡ length a.boxes =
      count_is ∙ sym (shares_length b 0 i) ∙ sym (length-map (shares_at b 0 i).boxes (λ m. box_at b 0 m)) ∙ ap length (sym h.leader.boxes) in
      let ckey = ckey_of drawn (helpers_draw b i) in
      let written = written_is b c s i count at count_is in
      let ckey_is : ckey ≡ ckey_at b c s = ap (λ (x : audit.Write). x.ckey) written in
      let applies = began_is a c s (i + 1) (root_at b 0 c s) count waits.0 (part_at b c s) drawn (helpers_draw b i) mine waits.1 in
      let fr : IsFrame (frame_with c s 0 (frame.Challenge ckey)) =
      record { lane = lane; serial = small; addressed = first; link = omega arith; linked = refl; body = ap length ckey_is ∙ ckey_length b c s } in
      let r = row s (leader.Challenged (steps.begun (root_at b 0 c s) (part_at b c s) ckey count) (frame.Challenge ckey)) in
      let begun : BegunAt b (i + 1) c s = record {
        before = omega (arith, at);
        count =
            ap (λ n. (table_at b n).count c) (add-one i)
            ∙ ap (λ t. t.count c) (parts_grow b.settings.boxes b.settings.width no_writes b.entries i (entry (line_of c s Begins) BeginWrite) entered)
            ∙ count_begun b.settings.boxes b.settings.width no_writes (table_at b i) (line_of c s Begins)
            ∙ sym (length-map (table_at b i).boxes (λ m. m.address))
            ∙ ap (λ n. length (addresses (table_at b n).boxes)) (sym at);
      } in
      subst (λ z. LeaderAcks b f w (line_of c s Begins) (steps.if_fits a (steps.fits a (frame_with c s (i + 1) z) body (steps.refusal_in body)))) (sym order)
      (subst (λ z. LeaderAcks b f w (line_of c s Begins) (steps.if_fits a (steps.fits a (frame_with c s (i + 1) (frame.LinkBegin drawn (part_at b c s))) z (steps.refusal_in z)))) (sym body_is)
      (subst (LeaderAcks b f w (line_of c s Begins)) (sym applies)
      (Answered r refl refl (row_is b f v w c s Begins known h k lane small first r)
      (foreign_applied_follows b f w c s (w.moment + 1) Begins r a.boxes (frame.Challenge ckey) h k
      (record { bare = refl; small = small; holds = (written, ap frame.Challenge ckey_is, fr) }) refl (still_waiting k) begun
      (h.leader.boxes ∙ ap (λ u. map (λ m. box_at b 0 m) u.boxes) (sym (shares_next b 0 i (entry (line_of c s Begins) BeginWrite) entered))) fr))))

  -- ---- its audit

  pub record AuditHeld : Type 0 where
    pub number : ℕ
    pub write : audit.Write
    pub share : ProofShare
    pub sigma : ℕ
    pub opened : Openings
    pub stage : (row_at a c).stage ≡ leader.Auditing number write share sigma opened
    pub held : LeaderHolds b c s (leader.Auditing number write share sigma opened)

  audit_held : (k : Oldest b f w c s Audits) → AuditHeld
  audit_held k = at_stage (row_at a c).stage refl (awaited b f v w c s Audits known h k lane small first).1 (holds b f v w c s Audits known h k lane small first)
    where
      not_audit : (asked : Asked) → bare_asked asked ≡ Audits → ⊥
      not_audit (Registering own key) e = cc e
      not_audit (Writing root part draw) e = cc e
      not_audit (Reading n) e = cc e
      not_audit (Retiring n) e = cc e

      at_stage : (stage : Stage) → (row_at a c).stage ≡ stage → Awaits Audits stage → ForeignLeaderHolds b c s stage → AuditHeld
      at_stage (leader.Auditing number write share sigma opened) is e k =
          record { number = number; write = write; share = share; sigma = sigma; opened = opened; stage = is; held = k }
      at_stage (leader.Waiting number asked) is e k = absurd (not_audit asked e)
      at_stage (leader.Settling number write own other) is e k = absurd (cc e)
      at_stage leader.Idle is e k = absurd e
      at_stage (leader.Challenged write kept) is e k = absurd e
      at_stage (leader.Done asked kept) is e k = absurd e

  pub audit_acks : (k : Oldest b f w c s Audits) (sigma : ℕ) (own : Openings)
      → slice_get b.entries i ≡ Some (entry (line_of c s Audits) AuditWrite)
      → (body : PlainBody) → body ≡ frame.LinkReply (frame.ReplyAudited (opened_at b 1 c s) (closing_at b 1 c s))
      → LeaderAcks b f w (line_of c s Audits) (steps.if_fits a (steps.fits a (frame_with c s (i + 1) (frame.LinkAudit sigma own)) body (steps.refusal_in body)))
  audit_acks k sigma own entered body body_is =
      let held = audit_held k in
      let serial = (awaited b f v w c s Audits known h k lane small first).0 in
      let closing = steps.own_closing held.share held.sigma held.opened (opened_at b 1 c s) in
      let closing_same : closing ≡ closing_at b 0 c s = closing_same b c s held.sigma held.share held.opened held.held.1 held.held.2 held.held.3 in
      let stage = leader.Settling a.next held.write closing (closing_at b 1 c s) in
      let r = row s stage in
      let next = h.leader.next in
      let n = known.sound.numbers in
      let few = issued_few b w known.within in
      let still : IsUnissued w.commands c s Settles =
      subst (λ n. StillToIssue w.commands c n (leader.Auditing held.number held.write held.share held.sigma held.opened)) serial (subst (StillToIssue w.commands c (row_at a c).serial) held.stage (h.leader.foreign.still c k.low k.foreign)) in
      let begun : BegunAt b i c s =
      subst (λ n. WasBegun b i c n (leader.Auditing held.number held.write held.share held.sigma held.opened)) serial (subst (WasBegun b i c (row_at a c).serial) held.stage (h.leader.begun c k.low k.foreign)) in
      let later : BegunAt b (i + 1) c s = begun_later b i c s (entry (line_of c s Audits) AuditWrite) entered (λ never. never) begun in
      let is = audited_is a c s (i + 1) held.number held.sigma sigma held.write held.share held.opened own (opened_at b 1 c s) (closing_at b 1 c s) held.stage in
      subst (λ z. LeaderAcks b f w (line_of c s Audits) (steps.if_fits a (steps.fits a (frame_with c s (i + 1) (frame.LinkAudit sigma own)) z (steps.refusal_in z)))) (sym body_is)
      (subst (LeaderAcks b f w (line_of c s Audits)) (sym is)
      (Settled r refl refl refl (row_is b f v w c s Audits known h k lane small first r)
      (foreign_settles_follow b f w c s (w.moment + 1) r (frame_with c s a.next (frame.LinkSettle closing)) h k
      (record { bare = refl; small = small; holds = (held.held.0, closing_same, refl) }) refl still tt later refl
      (audit_boxes b i (line_of c s Audits) entered) next refl refl (refl, closing_same)
      (record { lane = lane; serial = small; addressed = first; link = omega (arith, next, n, few); linked = omega (arith, next); body = subst IsClosing (sym closing_same) (closing_is b 0 c s known.sound k.foreign) }))))

  -- ---- its settle

  settle_held : (k : Oldest b f w c s Settles)
      → (number : ℕ) × ((row_at a c).stage ≡ leader.Settling number (write_at b 0 c s) (closing_at b 0 c s) (closing_at b 1 c s))
  settle_held k = at_stage (row_at a c).stage refl (awaited b f v w c s Settles known h k lane small first).1 (holds b f v w c s Settles known h k lane small first)
    where
      not_settle : (asked : Asked) → bare_asked asked ≡ Settles → ⊥
      not_settle (Registering own key) e = cc e
      not_settle (Writing root part draw) e = cc e
      not_settle (Reading n) e = cc e
      not_settle (Retiring n) e = cc e

      at_stage : (stage : Stage) → (row_at a c).stage ≡ stage → Awaits Settles stage → ForeignLeaderHolds b c s stage
          → (number : ℕ) × ((row_at a c).stage ≡ leader.Settling number (write_at b 0 c s) (closing_at b 0 c s) (closing_at b 1 c s))
      at_stage (leader.Settling number write own other) is e k =
          (number, is ∙ ap (λ w. leader.Settling number w own other) k.0 ∙ ap (λ x. leader.Settling number (write_at b 0 c s) x other) k.1 ∙ ap (leader.Settling number (write_at b 0 c s) (closing_at b 0 c s)) k.2)
      at_stage (leader.Waiting number asked) is e k = absurd (not_settle asked e)
      at_stage (leader.Auditing number write share sigma opened) is e k = absurd (cc e)
      at_stage leader.Idle is e k = absurd e
      at_stage (leader.Challenged write kept) is e k = absurd e
      at_stage (leader.Done asked kept) is e k = absurd e

  answer_spelled : (t : Bool) → b.foreign c ≡ true → IsFrame (frame_with c s 0 (settled_answer b c s t))
  answer_spelled true foreign = record { lane = lane; serial = small; addressed = first; link = omega arith; linked = refl; body = tt }
  answer_spelled false foreign =
      let zero = closing_is b 0 c s known.sound foreign in
      let one = closing_is b 1 c s known.sound foreign in
      record { lane = lane; serial = small; addressed = first; link = omega arith; linked = refl; body = (zero.o, (one.o, (zero.tau, one.tau))) }

  pub settle_acks : (k : Oldest b f w c s Settles) (closing : Closing)
      → slice_get b.entries i ≡ Some (entry (line_of c s Settles) SettleWrite)
      → (body : PlainBody) → body ≡ settled_reply (accepted_at b c s)
      → LeaderAcks b f w (line_of c s Settles) (steps.if_fits a (steps.fits a (frame_with c s (i + 1) (frame.LinkSettle closing)) body (steps.refusal_in body)))
  settle_acks k closing entered body body_is =
      let held = settle_held k in
      let serial = (awaited b f v w c s Settles known h k lane small first).0 in
      let t = accepted_at b c s in
      let begun : BegunAt b i c s =
      subst (λ n. WasBegun b i c n (leader.Settling held.0 (write_at b 0 c s) (closing_at b 0 c s) (closing_at b 1 c s))) serial (subst (WasBegun b i c (row_at a c).serial) held.1 (h.leader.begun c k.low k.foreign)) in
      let is = settled_is b a c s (i + 1) held.0 closing t refl held.1 in
      subst (λ z. LeaderAcks b f w (line_of c s Settles) (steps.if_fits a (steps.fits a (frame_with c s (i + 1) (frame.LinkSettle closing)) z (steps.refusal_in z)))) (sym body_is)
      (subst (LeaderAcks b f w (line_of c s Settles)) (sym is)
      (done_acks b f v w c s Settles known h k lane small first want.Write (settled_boxes b c s a.boxes t) (settled_answer b c s t)
      (settled_shares b c s i a.boxes t refl h.leader.boxes (shares_count b 0 i c ∙ begun.count) entered) (answer_spelled t k.foreign)))

  -- ---- a read or retire of a live box

  read_is : (stays : Bool) (n : ℕ) (box : Box) (share : List ℕ) → slice_get a.boxes n ≡ Some box
      → steps.if_fits a (steps.fits a (frame_with c s (i + 1) (link_for stays n)) (frame.LinkReply (frame.ReplyMasked share)) None)
      ≡ applied a c (row s (leader.Done want.Read (frame.Message (xor_bytes box.share (mask box.key c s a.settings.width)) share))) (with_read a.settings.width stays n box a.boxes) (frame.Message (xor_bytes box.share (mask box.key c s a.settings.width)) share) s
  unfolding steps.fits steps.by_command steps.read
  read_is true n box share e = rw e refl
  read_is false n box share e = rw e refl

  cleared : (stays : Bool) (n : ℕ) → slice_get b.entries i ≡ Some (entry (line_of c s (command_for stays)) (does_for stays n))
      → boxes_at b 0 (i + 1) ≡ map (λ m. box_at b 0 m) (boxes_cleared b.settings.width stays (shares_at b 0 i).boxes n)
  unfolding after_line
  cleared true n e = ap (λ u. map (λ m. box_at b 0 m) u.boxes) (shares_next b 0 i (entry (line_of c s Reads) (ReadBox n)) e)
  cleared false n e = ap (λ u. map (λ m. box_at b 0 m) u.boxes) (shares_next b 0 i (entry (line_of c s Retires) (RetireBox n)) e)

  pub live_acks : (stays : Bool) (k : Oldest b f w c s (command_for stays)) (n : ℕ) (m : Mailbox)
      → slice_get b.entries i ≡ Some (entry (line_of c s (command_for stays)) (does_for stays n))
      → slice_get (shares_at b 1 i).boxes n ≡ Some m → m.live ≡ true
      → LeaderAcks b f w (line_of c s (command_for stays)) (steps.if_fits a (steps.fits a (frame_with c s (i + 1) (link_for stays n)) (frame.LinkReply (frame.ReplyMasked (masked_at b 1 i (line_of c s (command_for stays)) n m.bytes))) None))
  live_acks stays k n m entered there live =
      let other = other_box b 0 1 i n m there in
      let z = other.0 in
      let zero_live : z.live ≡ true = ap (λ x. x.live) other.1.1 ∙ live in
      let width : a.settings.width ≡ b.settings.width = ap (λ x. x.width) h.leader.settings in
      let held : slice_get a.boxes n ≡ Some (box_at b 0 z) =
      ap (λ xs. slice_get xs n) h.leader.boxes ∙ slice_get-map (λ m. box_at b 0 m) (shares_at b 0 i).boxes n ∙ ap (option_map (λ m. box_at b 0 m)) other.1.0 in
      let share = masked_at b 1 i (line_of c s (command_for stays)) n m.bytes in
      let zero = xor_bytes z.bytes (mask (key_at b 0 z.lane z.serial) c s a.settings.width) in
      let one_long : length share ≡ b.settings.width = masked_length m.bytes (key_in b 1 (slice_get (shares_at b 1 i).boxes n)) c s b.settings.width (share_width b 1 i n m known.sound there) in
      let zero_long : length zero ≡ b.settings.width =
      ap (λ w. length (xor_bytes z.bytes (mask (key_at b 0 z.lane z.serial) c s w))) width
      ∙ masked_length z.bytes (key_at b 0 z.lane z.serial) c s b.settings.width (share_width b 0 i n z known.sound other.1.0) in
      let boxed : with_read a.settings.width stays n (box_at b 0 z) a.boxes ≡ boxes_at b 0 (i + 1) =
      ap (λ w. with_read w stays n (box_at b 0 z) a.boxes) width
      ∙ ap (with_read b.settings.width stays n (box_at b 0 z)) h.leader.boxes
      ∙ read_effect b 0 b.settings.width stays n z (shares_at b 0 i).boxes other.1.0 zero_live ∙ sym (cleared stays n entered) in
      subst (LeaderAcks b f w (line_of c s (command_for stays))) (sym (read_is stays n (box_at b 0 z) share held))
      (done_acks b f v w c s (command_for stays) known h k lane small first want.Read (with_read a.settings.width stays n (box_at b 0 z) a.boxes) (frame.Message zero share) boxed
      (record { lane = lane; serial = small; addressed = first; link = omega arith; linked = refl; body = (zero_long ∙ sym one_long, subst IsWidth (sym zero_long) known.sound.limits.0) }))
