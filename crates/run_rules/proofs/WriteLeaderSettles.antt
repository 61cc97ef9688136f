-- The replies to a write's audit and settle come to the leader, in both runs: the settle is issued, and the write is
-- accepted or rejected.
use Rattle.std.proofs.Common.{◌≡◌, ℕ, suc, ◌<◌, ◌^◌, ◌+◌, false, List, [], ◌∷◌, ◌++◌, length, drop, map, Some, None, slice_get, refl, sym, ap, ◌∙◌, subst, inl, inr, arith, length-append, length-drop, slice_set}
use Rattle.std.proofs.lemmas.Bool.{cases_lt}
use Rattle.std.proofs.lemmas.List.{length-set}
use Rattle.std.proofs.lemmas.Option.{slice_get_within}
use Rattle.express_words.specs.Ranges.{IsClosing}
use Rattle.express_words.specs.declared.audit.ProofShare.{ProofShare}
use Rattle.express_words.specs.declared.audit.Openings.{Openings}
use Rattle.express_words.specs.declared.audit.Closing.{Closing}
use Rattle.frame_rules.specs.Frames as frame
use Rattle.frame_rules.specs.Frames.{PlainFrame, PlainBody}
use Rattle.frame_rules.specs.Spelling.{IsFrame}
use Rattle.frame_rules.specs.Whole.{has_width}
use Rattle.audit_rules.specs.Audit.{closing_of, opened_of}
use Rattle.audit_rules.specs.Values.{Write}
use Rattle.mailbox_rules.specs.Requests.{Command, Audits, Settles, AuditWrite, Line, entry}
use Rattle.mailbox_rules.specs.Tables.{result_of, after_line}
use Rattle.token_rules.specs.Tokens as token
use Rattle.token_rules.specs.Tokens.{World, Lane, put, Oracle}
use Rattle.token_rules.specs.Run.{line_of, reply_applied, acknowledges}
use Rattle.token_rules.specs.Stages.{Checked, Settling, Settled, rank}
use Rattle.token_rules.proofs.Cases.{acks, acks_is, issues_for}
use Rattle.token_rules.proofs.Lists.{get_end}
use Rattle.step_rules.specs.Leader as leader
use Rattle.step_rules.specs.Leader.{Leader, Row, row, row_at, with_row, AckTurn, idle}
use Rattle.step_rules.specs.LeaderReplies as steps
use Rattle.step_tokens.specs.LeaderRows.{bare_phase}
use Rattle.run_rules.specs.Letters.{FrameWorld}
use Rattle.run_rules.specs.Run as frames
use Rattle.run_rules.specs.Book.{Book, wants, is_drawn}
use Rattle.run_rules.specs.Values.{share_at, sigma_at, opened_at, closing_at, box_at, boxes_at}
use Rattle.run_rules.specs.Frames.{frame_with, frame_of, command_body, reply_with, reply_body, result_at}
use Rattle.run_rules.specs.Follows.{LeaderHolds, LeaderRow, LeaderRowAt, IsCommand, AreCommands, IsIssued, Follows}
use Rattle.run_rules.specs.Known.{Known}
use Rattle.run_rules.specs.Laws.{ComesFollows}
use Rattle.run_rules.proofs.ForeignLeaderCounts.{EntryOf, was_begun_more, not_foreign, awaited_set, awaited_more}
use Rattle.run_rules.proofs.ForeignCommands.{foreign_set, foreign_more}
use Rattle.run_rules.proofs.Basics.{put_here, put_other, put_part, pools_append}
use Rattle.run_rules.proofs.HelperRegisters.{shares_next}
use Rattle.run_rules.proofs.LeaderClients.{row_of, rows_set, issued_set, issued_more, commands_more, drop_more}
use Rattle.run_rules.proofs.LeaderReplies.{drop_next, commands_next}
use Rattle.run_rules.proofs.WriteLeaderCounts.{entry_writes}
use Rattle.run_rules.proofs.WriteLeaderRanges.{WriteIs, closing_is}
use Rattle.run_rules.proofs.WriteLeaderReplies.{AppliesSo, replied_follows, journal_line, held_at}
use Rattle.run_rules.proofs.WriteLeaderSubmits.{undrawn_same, issued_few}

-- ---- a reply is applied, and the next command of its lane is issued

abbrev pub settles_with : Leader → ℕ → Row → PlainFrame → AckTurn
settles_with a c r command = record {
  leader = record (with_row a c r) { outstanding = drop 1 a.outstanding ++ command ∷ []; next = a.next + 1 };
  ack = leader.Settles a.next command;
}

pub settles_follow : (b : Book) (f : FrameWorld) (w : World) (c s : ℕ) (x : token.Phase) (y : Command) (r : Row) (command : PlainFrame)
    → Follows b f w → b.foreign c ≡ false → c < b.settings.lanes → w.acknowledged < length w.commands
    → LeaderRow b c r (token.row s x) → is_drawn (line_of c s y) ≡ false
    → EntryOf b w.acknowledged c → boxes_at b 0 (w.acknowledged + 1) ≡ boxes_at b 0 w.acknowledged
    → frame_of b (token.Ordered (length w.commands + 1) (line_of c s y)) ≡ Some command → IsFrame command
    → IsIssued (w.commands ++ line_of c s y ∷ []) c r.serial r.stage
    → Follows b (frames.to_leader_link f (settles_with f.leader c r command)) (issues_for (acknowledges w) c s x y)
settles_follow b f w c s x y r command h hon low few hr undrawn entered boxed is fr settles =
    let line = line_of c s y in
    let lane : Lane = record (w.lanes c) { leader = token.row s x } in
    let new = put w.lanes c lane in
    let hh = h.helper in
    let la = h.leader in
    let next = la.next in
    let j = w.acknowledged + 1 in
    let n : suc (w.acknowledged + 1) ≡ suc (suc w.acknowledged) = omega arith in
    let out : AreCommands b (suc j) (drop j w.commands) (drop 1 f.leader.outstanding) =
    rw (n, drop_next w.acknowledged w.commands) (commands_next b (suc w.acknowledged) (drop w.acknowledged w.commands) f.leader.outstanding la.outstanding) in
    let number : suc j + length (drop j w.commands) ≡ length w.commands + 1 = let e = length-drop j w.commands in omega (arith, e, few) in
    let one : IsCommand b (b.foreign c) (suc j + length (drop j w.commands)) line command = rw (hon, number) is in
    let more : length (w.commands ++ line ∷ []) ≡ length w.commands + 1 = length-append w.commands (line ∷ []) in
    record {
      limit = h.limit;
      width = h.width;
      window = h.window;
      foreign = h.foreign;
      helper = record {
        settings = hh.settings;
        seed = hh.seed;
        count = hh.count;
        rows = λ d there. rw (put_part (λ l. l.helper) w.lanes c lane refl d) (hh.rows d there);
        boxes = hh.boxes;
        draws = hh.draws;
        number = hh.number;
        kept = hh.kept;
        window = hh.window;
        most = hh.most;
        begun = hh.begun;
      };
      leader = record {
        settings = la.settings;
        seed = la.seed;
        count = length-set f.leader.rows c r ∙ la.count;
        rows = rows_set b f.leader.rows w.lanes new c r (token.row s x) la.count low la.rows
            (ap (λ l. l.leader) (put_here w.lanes c lane)) (λ d n. ap (λ l. l.leader) (put_other w.lanes c lane d n))
            (subst (λ t. LeaderRowAt b c t r (token.row s x)) (sym hon) hr);
        boxes = la.boxes ∙ sym boxed;
        draws = la.draws ∙ sym (undrawn_same w.commands line undrawn);
        next = ap (λ n. n + 1) next ∙ ap (λ n. n + 1) (sym more);
        outstanding = rw (drop_more j w.commands (line ∷ []) (omega (arith, few))) (commands_more b (suc j) (drop j w.commands) (drop 1 f.leader.outstanding) line command out one fr low);
        issued = issued_set b f.leader.rows w.commands (w.commands ++ line ∷ []) c r la.count low la.issued (λ t. settles)
            (λ d n stage other k. issued_more w.commands line d n stage other k);
        foreign = foreign_more b (slice_set f.leader.rows c r) w.commands line hon (foreign_set b f.leader.rows w.commands c r hon la.foreign);
        begun = was_begun_more b f.leader.rows w.acknowledged c r la.count low entered la.begun (λ t. absurd (not_foreign b c hon t));
        awaited = awaited_more b (slice_set f.leader.rows c r) j w.commands line hon (awaited_set b f.leader.rows w.acknowledged j c r w.commands hon (omega arith) la.awaited);
      };
      clients = λ d. rw (put_part (λ l. l.step) w.lanes c lane refl d, put_part (λ l. l.serial) w.lanes c lane refl d) (h.clients d);
      waiting = h.waiting;
      told = h.told;
      pool = pools_append b w.pool _ f.pool _ h.pool (rw hon (record { lane = low; frame = command; is = is; spelled = record { at = refl; bytes = refl; is_frame = fr } }), tt);
      journal = h.journal;
      outcomes = h.outcomes;
    }

-- ---- the audit's reply

audited_body : (b : Book) (c s i : ℕ) → WriteIs b c s
    → reply_body b i (line_of c s Audits) ≡ frame.LinkReply (frame.ReplyAudited (opened_at b 1 c s) (closing_at b 1 c s))
unfolding result_at result_of reply_with
audited_body b c s i h = rw (h.is) refl

-- what the row that waits for it holds
pub record AuditWaits (b : Book) (c s : ℕ) (r : Row) : Type 0 where
  pub serial : r.serial ≡ s
  pub number : ℕ
  pub write : Write
  pub share : ProofShare
  pub sigma : ℕ
  pub opened : Openings
  pub stage : r.stage ≡ leader.Auditing number write share sigma opened
  pub holds : LeaderHolds b c s (leader.Auditing number write share sigma opened)

audit_waits : (b : Book) (c s : ℕ) (commands : List Line) (r : Row) (x : token.Row) → LeaderRow b c r x → x.serial ≡ s
    → x.phase ≡ token.Auditing → IsIssued commands c r.serial r.stage
    → ((k : ℕ) → slice_get commands k ≡ Some (line_of c s Settles) → ⊥) → AuditWaits b c s r
audit_waits b c s commands r x h serial phase issued none =
    let same : r.serial ≡ s = ap (λ y. y.serial) h.bare ∙ serial in
    at_stage r.stage refl (subst (λ n. LeaderHolds b c n r.stage) same h.holds) (subst (λ n. IsIssued commands c n r.stage) same issued) (ap (λ y. y.phase) h.bare ∙ phase) same
  where
    at_stage : (stage : leader.Stage) → r.stage ≡ stage → LeaderHolds b c s stage → IsIssued commands c s stage
        → bare_phase stage ≡ token.Auditing → r.serial ≡ s → AuditWaits b c s r
    at_stage (leader.Auditing number write share sigma opened) is k i e same =
        record { serial = same; number = number; write = write; share = share; sigma = sigma; opened = opened; stage = is; holds = k }
    at_stage (leader.Settling number write own other) is k i e same = absurd (none i.0 i.1)
    at_stage leader.Idle is k i e same = absurd (cc e)
    at_stage (leader.Waiting number asked) is k i e same = absurd (cc e)
    at_stage (leader.Challenged write kept) is k i e same = absurd (cc e)
    at_stage (leader.Done asked kept) is k i e same = absurd (cc e)

-- while the audit is outstanding no settle is issued
no_settle : (b : Book) (v w : World) (c s : ℕ) (k : Known b v w) → w.foreign c ≡ false → (w.lanes c).serial ≡ s
    → k.lawful.stages c ≡ Checked → (i : ℕ) → slice_get w.commands i ≡ Some (line_of c s Settles) → ⊥
no_settle b v w c s k hon serial stage i e =
    let stands = k.lawful.coherent.lines i (line_of c s Settles) e hon in
    let at : rank (k.lawful.stages c) ≡ 11 = ap rank stage in
    elim (cases_lt i w.acknowledged) [
      | inl gone ↦ let far_enough = stands.gone gone in omega (arith, far_enough, serial, at)
      | inr left ↦ elim (cases_lt i w.carried) [
        | inl held ↦ let now = stands.held left held in let never : Settled ≡ Checked = sym now.stage ∙ stage in cc never
        | inr out ↦ let now = stands.out out in let never : Settling ≡ Checked = sym now.stage ∙ stage in cc never
      ]
    ]

pub audited_is : (a : Leader) (c s n number sigma t : ℕ) (w : Write) (share : ProofShare) (opened own other : Openings) (closed : Closing)
    → (row_at a c).stage ≡ leader.Auditing number w share sigma opened
    → steps.if_fits a (steps.fits a (frame_with c s n (frame.LinkAudit t own)) (frame.LinkReply (frame.ReplyAudited other closed)) None)
    ≡ settles_with a c (row s (leader.Settling a.next w (steps.own_closing share sigma opened other) closed)) (frame_with c s a.next (frame.LinkSettle (steps.own_closing share sigma opened other)))
unfolding steps.fits steps.by_command steps.audited
audited_is a c s n number sigma t w share opened own other closed stage = rw stage refl

pub closing_same : (b : Book) (c s sigma : ℕ) (share : ProofShare) (opened : Openings) → share ≡ share_at b 0 c s → sigma ≡ sigma_at b c s
    → opened ≡ opened_at b 0 c s → steps.own_closing share sigma opened (opened_at b 1 c s) ≡ closing_at b 0 c s
unfolding closing_at
closing_same b c s sigma share opened e k l =
    ap (λ x. closing_of 0 x sigma (opened_of opened (opened_at b 1 c s))) e
    ∙ ap (λ x. closing_of 0 (share_at b 0 c s) x (opened_of opened (opened_at b 1 c s))) k
    ∙ ap (λ x. closing_of 0 (share_at b 0 c s) (sigma_at b c s) (opened_of x (opened_at b 1 c s))) l

settle_is : (b : Book) (c s n : ℕ)
    → frame_of b (token.Ordered n (line_of c s Settles)) ≡ Some (frame_with c s n (frame.LinkSettle (closing_at b 0 c s)))
unfolding frame_of command_body
settle_is b c s n = refl

audit_command : (b : Book) (c s i : ℕ)
    → command_body b i (line_of c s Audits) Audits ≡ frame.LinkAudit (sigma_at b c s) (opened_at b 0 c s)
unfolding command_body
audit_command b c s i = refl

audit_acks : (o : Oracle) (w : World) (c s : ℕ) → w.foreign c ≡ false
    → reply_applied o w (line_of c s Audits) ≡ issues_for (acknowledges w) c s token.Auditing Settles
unfolding reply_applied acks
audit_acks o w c s honest = rw honest (acks_is w c s Audits)

pub audit_boxes : (b : Book) (i : ℕ) (x : Line) → slice_get b.entries i ≡ Some (entry x AuditWrite) → boxes_at b 0 (i + 1) ≡ boxes_at b 0 i
unfolding after_line
audit_boxes b i x e = ap (λ u. map (λ m. box_at b 0 m) u.boxes) (shares_next b 0 i (entry x AuditWrite) e)

pub audited_applies : (b : Book) (c s : ℕ) → WriteIs b c s → AppliesSo b (line_of c s Audits)
audited_applies b c s write o f v w k h low there carried =
    let a = f.leader in
    let i = w.acknowledged in
    let hon = write.honest in
    let honest : w.foreign c ≡ false = ap (λ foreign. foreign c) h.foreign ∙ hon in
    let held = held_at b v w c s Audits k honest there carried in
    let first = held.first in
    let hr = row_of b f w c h hon low in
    let waits = audit_waits b c s w.commands (row_at a c) (w.lanes c).leader hr (held.fits.leader_serial ∙ held.serial) held.fits.leader_phase
    (h.leader.issued c low hon) (no_settle b v w c s k honest held.serial held.stage) in
    let small = hr.small in
    let serial = waits.serial in
    let serial_small : s < 2 ^ 32 = omega (arith, small, serial) in
    let lanes = k.sound.limits.2.1 in
    let lane_small : c < 2 ^ 16 = omega (arith, low, lanes) in
    let own = steps.own_closing waits.share waits.sigma waits.opened (opened_at b 1 c s) in
    let own_is : own ≡ closing_at b 0 c s = closing_same b c s waits.sigma waits.share waits.opened waits.holds.1 waits.holds.2 waits.holds.3 in
    let next = h.leader.next in
    let n = k.sound.numbers in
    let few = issued_few b w k.within in
    let out = slice_get_within w.commands i (line_of c s Audits) there in
    let e = entry_writes b v c s i Audits write.target write.message k.whole hon write.is tt (journal_line b v w (line_of c s Audits) k there carried) in
    rw (
      audited_body b c s i write,
      audit_command b c s i,
      audited_is a c s (i + 1) waits.number waits.sigma (sigma_at b c s) waits.write waits.share waits.opened (opened_at b 0 c s) (opened_at b 1 c s) (closing_at b 1 c s) waits.stage,
      audit_acks o w c s honest,
    )
    (settles_follow b f w c s token.Auditing Settles (row s (leader.Settling a.next waits.write own (closing_at b 1 c s))) (frame_with c s a.next (frame.LinkSettle own)) h hon low out
    (record { bare = refl; small = serial_small; want = λ pos. sym (ap wants write.is); holds = (waits.holds.0, own_is, refl) })
    refl
    (record { entry = entry (line_of c s Audits) AuditWrite; is = e; lane = refl })
    (audit_boxes b i (line_of c s Audits) e)
    (settle_is b c s (length w.commands + 1) ∙ ap (λ m. Some (frame_with c s m (frame.LinkSettle (closing_at b 0 c s)))) (sym next) ∙ ap (λ x. Some (frame_with c s a.next (frame.LinkSettle x))) (sym own_is))
    (record { lane = lane_small; serial = serial_small; addressed = first; link = omega (arith, next, n, few); linked = omega (arith, next); body = subst IsClosing (sym own_is) (closing_is b c s write 0) })
    (length w.commands, get_end w.commands (line_of c s Settles)))

pub audited_replied : (b : Book) (c s n : ℕ) → WriteIs b c s → ComesFollows b (token.Replied n (line_of c s Audits))
audited_replied b c s n write =
    replied_follows b n (line_of c s Audits) write.honest (λ i. ap (has_width b.settings.width) (audited_body b c s i write)) (audited_applies b c s write)
