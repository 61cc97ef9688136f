-- The commands of a foreign lane's write at the helper, in both runs.
use Rattle.std.proofs.Common.{◌≡◌, ℕ, ◌<◌, ◌≤◌, ◌^◌, ◌+◌, ◌⊎◌, true, false, Bool, length, take, map, Some, None, slice_get, refl, sym, ap, ◌∙◌, subst, inl, inr, arith, lit<, add-one}
use Rattle.std.proofs.lemmas.List.{length-map}
use Rattle.express_words.specs.Ranges.{IsOpenings, IsClosing}
use Rattle.express_words.specs.declared.refusal.Refusal.TheVariants as refusal
use Rattle.frame_rules.specs.declared.frame.DepositBody.TheVariants as deposit
use Rattle.frame_rules.specs.Frames as frame
use Rattle.frame_rules.specs.Frames.{PlainBody}
use Rattle.frame_rules.specs.Spelling.{IsFrame}
use Rattle.dpf_rules.specs.Walk.{word_of}
use Rattle.dpf_rules.specs.Expansion.{draw32}
use Rattle.dpf_rules.proofs.RangeLemmas.{word_lt}
use Rattle.audit_rules.specs.Values.{opens}
use Rattle.audit_rules.proofs.ValueLemmas.{opening-in_range, opened-in_range, closing-in_range, sums_at-in_range}
use Rattle.lane_table.specs.declared.row.Want.TheVariants as want
use Rattle.mailbox_rules.specs.Requests.{Begins, Audits, Settles, Line, entry, BeginWrite, AuditWrite, SettleWrite}
use Rattle.mailbox_rules.specs.Tables.{Settled, result_of, no_writes}
use Rattle.mailbox_rules.proofs.Folds.{parts_grow}
use Rattle.token_rules.specs.Tokens.{World}
use Rattle.token_rules.specs.Run.{line_of}
use Rattle.step_rules.specs.Helper as helper
use Rattle.step_rules.specs.Helper.{Server, Stage, row}
use Rattle.step_rules.specs.HelperCommands as steps
use Rattle.step_rules.specs.HelperCommands.{Effect, effect}
use Rattle.run_rules.specs.Letters.{FrameWorld, leader_seed}
use Rattle.run_rules.specs.Acts.{does_after}
use Rattle.run_rules.specs.Book.{Book, place, begun_in, leaders_draw, helpers_draw, table_at}
use Rattle.run_rules.specs.Values.{root_at, part_at, counted_at, write_at, share_at, sigma_at, opened_at, closing_at, accepted_at, shares_at, writes_at, box_at}
use Rattle.run_rules.specs.Frames.{frame_with, command_body, reply_with}
use Rattle.run_rules.specs.Follows.{BegunAt, HasBegun, ForeignHolds, Sound}
use Rattle.run_rules.proofs.Counts.{count_begun, begun_later}
use Rattle.run_rules.proofs.HelperCommands.{left_by, draws_more, draws_same}
use Rattle.run_rules.proofs.HelperRegisters.{shares_few}
use Rattle.run_rules.proofs.WriteLeaderRanges.{helpers_draw_length, draw_bytes}
use Rattle.run_rules.proofs.WriteLeaderCounts.{shares_length, shares_count}
use Rattle.run_rules.proofs.WriteHelperCarried.{ordered}
use Rattle.run_rules.proofs.WriteHelperBefore.{counted_first}
use Rattle.run_rules.proofs.WriteHelperBegins.{begin_effect, begun_is, begin_boxes}
use Rattle.run_rules.proofs.WriteHelperAudits.{audit_effect, audited_with, values_are, audit_boxes}
use Rattle.run_rules.proofs.WriteHelperSettles.{settle_effect, settle_boxes, judged, written}
use Rattle.run_rules.proofs.ForeignHelperCarried.{ForeignMade, Orders, done_made, foreign_reply, made_as, refused_made, row_after}

-- ---- ranges

sigma_small : (b : Book) (c s : ℕ) → sigma_at b c s < 2 ^ 128
unfolding sigma_at word_of
sigma_small b c s = word_lt (leaders_draw b (place b c s Audits)) 0 (draw_bytes (leader_seed b.seed) _)

pub opened_is : (b : Book) (server c s : ℕ) → Sound b → b.foreign c ≡ true → server < 2 → IsOpenings (opened_at b server c s)
unfolding opened_at opens write_at share_at
opened_is b server c s sound foreign low =
    rw foreign (opening-in_range _ (b.brought.share server c s) (sigma_at b c s)
    (sums_at-in_range server _ (counted_at b c s) low (sound.brought.roots server c s) (sound.brought.bytes c s))
    (sound.brought.shares server c s) (sigma_small b c s))

pub closing_is : (b : Book) (server c s : ℕ) → Sound b → b.foreign c ≡ true → IsClosing (closing_at b server c s)
unfolding closing_at share_at
closing_is b server c s sound foreign =
    rw foreign (closing-in_range server (b.brought.share server c s) (sigma_at b c s) _ (sound.brought.shares server c s) (sigma_small b c s)
    (opened-in_range (opened_at b 0 c s) (opened_at b 1 c s) (opened_is b 0 c s sound foreign (lit< tt)) (opened_is b 1 c s sound foreign (lit< tt))))

-- ---- what the row holds for each

root_or_none : (b : Book) (c s : ℕ) (stage : Stage) → ForeignHolds b c s stage
    → (steps.held_root stage ≡ None) ⊎ (stage ≡ helper.Deposited (deposit.Write (root_at b 1 c s)))
root_or_none b c s (helper.Deposited (deposit.Write root)) h = inr (ap (λ root. helper.Deposited (deposit.Write root)) h)
root_or_none b c s (helper.Deposited (deposit.Register key)) h = inl refl
root_or_none b c s (helper.Deposited (deposit.Read held)) h = inl refl
root_or_none b c s helper.Idle h = inl refl
root_or_none b c s (helper.Begun write) h = inl refl
root_or_none b c s (helper.Proved write share) h = inl refl
root_or_none b c s (helper.Audited write closing) h = inl refl
root_or_none b c s (helper.Done want) h = inl refl

-- a write that can be audited
record IsProved (b : Book) (carried c s : ℕ) (stage : Stage) : Type 0 where
  is : stage ≡ helper.Proved (write_at b 1 c s) (share_at b 1 c s)
  begun : BegunAt b carried c s

proof_or_none : (b : Book) (carried c s : ℕ) (stage : Stage) → ForeignHolds b c s stage → HasBegun b carried c s stage
    → (steps.held_proof stage ≡ None) ⊎ ((steps.held_proof stage ≡ Some None) ⊎ IsProved b carried c s stage)
proof_or_none b carried c s (helper.Proved write share) h begun =
    inr (inr (record { is = ap (λ w. helper.Proved w share) h.0 ∙ ap (helper.Proved (write_at b 1 c s)) h.1; begun = begun }))
proof_or_none b carried c s (helper.Begun write) h begun = inr (inl refl)
proof_or_none b carried c s helper.Idle h begun = inl refl
proof_or_none b carried c s (helper.Deposited held) h begun = inl refl
proof_or_none b carried c s (helper.Audited write closing) h begun = inl refl
proof_or_none b carried c s (helper.Done want) h begun = inl refl

-- one that can be settled
record IsAudited (b : Book) (carried c s : ℕ) (stage : Stage) : Type 0 where
  is : stage ≡ helper.Audited (write_at b 1 c s) (closing_at b 1 c s)
  begun : BegunAt b carried c s

closing_or_none : (b : Book) (carried c s : ℕ) (stage : Stage) → ForeignHolds b c s stage → HasBegun b carried c s stage
    → (steps.held_closing stage ≡ None) ⊎ IsAudited b carried c s stage
closing_or_none b carried c s (helper.Audited write closing) h begun =
    inr (record { is = ap (λ w. helper.Audited w closing) h.0 ∙ ap (helper.Audited (write_at b 1 c s)) h.1; begun = begun })
closing_or_none b carried c s (helper.Begun write) h begun = inl refl
closing_or_none b carried c s (helper.Proved write share) h begun = inl refl
closing_or_none b carried c s helper.Idle h begun = inl refl
closing_or_none b carried c s (helper.Deposited held) h begun = inl refl
closing_or_none b carried c s (helper.Done want) h begun = inl refl

module _ (b : Book) (f : FrameWorld) (w : World) (c s : ℕ) (sound : Sound b) (foreign : b.foreign c ≡ true) (low : c < b.settings.lanes)
    (count : length w.journal ≡ w.carried) (journal : w.journal ≡ take (length w.journal) b.entries) (stage : Stage)
    (holds : ForeignHolds b c s stage) (begun : HasBegun b w.carried c s stage) where
  abbrev i : ℕ
  i = w.carried

  abbrev server : Server
  server = f.helper.server

  -- ---- a begin

  module _ (k : Orders b f w (line_of c s Begins)) (at : place b c s Begins ≡ w.carried) where
    abbrev begin : Line
    begin = line_of c s Begins

    boxes : length server.boxes ≡ length (shares_at b 1 i).boxes
    boxes = ap length k.follows.helper.boxes ∙ length-map (shares_at b 1 i).boxes (λ m. box_at b 1 m)

    boxes_counted : length server.boxes ≡ length (counted_at b c s)
    boxes_counted = boxes ∙ shares_length b 1 i ∙ ap (λ n. length (map (λ m. m.address) (table_at b n).boxes)) (sym at)

    drawn : steps.draw server ≡ helpers_draw b i
    drawn =
        ap (λ d. draw32 d server.draws) k.follows.helper.seed
        ∙ ap (draw32 _) (k.follows.helper.draws ∙ ap begun_in journal ∙ ap (λ n. begun_in (take n b.entries)) count)

    boxes_small : length server.boxes < 2 ^ 32
    boxes_small =
        let few = shares_few b 1 i in
        let same = boxes in
        let size : b.settings.boxes ≤ 4096 = sound.limits.1.1 in
        omega (arith, same, few, size)

    -- its own begin is the lane's last
    now_begun : slice_get b.entries i ≡ Some (entry begin BeginWrite) → BegunAt b (i + 1) c s
    now_begun entered = record {
      before = omega (arith, at);
      count =
          ap (λ n. (table_at b n).count c) (add-one i)
          ∙ ap (λ t. t.count c) (parts_grow b.settings.boxes b.settings.width no_writes b.entries i (entry begin BeginWrite) entered)
          ∙ count_begun b.settings.boxes b.settings.width no_writes (table_at b i) begin
          ∙ sym (length-map (table_at b i).boxes (λ m. m.address))
          ∙ ap (λ n. length (map (λ m. m.address) (table_at b n).boxes)) (sym at);
    }

    reply_is : frame.LinkBegun (length server.boxes) (steps.draw server)
        ≡ reply_with b i begin (result_of b.settings.boxes (writes_at b 1) (shares_at b 1 i) begin BeginWrite)
    unfolding reply_with result_of
    reply_is = ap (λ n. frame.LinkBegun n (steps.draw server)) boxes ∙ ap (frame.LinkBegun (length (shares_at b 1 i).boxes)) drawn

    begun_made : stage ≡ helper.Deposited (deposit.Write (root_at b 1 c s))
        → ForeignMade b w begin (frame.LinkBegin (leaders_draw b i) (part_at b c s)) (steps.command server (ordered b i begin) (command_body b i begin Begins) stage)
    begun_made is =
        let out =
        begin_effect b server c s i (root_at b 1 c s) stage is
        ∙ ap (λ w. effect (left_by server c (row s (helper.Begun w)) server.boxes (server.draws + 1)) (frame.LinkBegun (length server.boxes) (steps.draw server)))
        (begun_is b server c s i at boxes_counted drawn) in
        subst (ForeignMade b w begin (frame.LinkBegin (leaders_draw b i) (part_at b c s))) (sym out) (λ entered. row_after b f w begin (helper.Begun (write_at b 1 c s)) BeginWrite server.boxes (server.draws + 1)
        (frame.LinkBegun (length server.boxes) (steps.draw server))
        k.follows foreign low k.serial entered refl (now_begun entered)
        (k.follows.helper.boxes ∙ begin_boxes b i c s entered)
        (ap (λ n. n + 1) k.follows.helper.draws ∙ sym (draws_more w.journal (entry begin BeginWrite)))
        (foreign_reply b i begin _ BeginWrite entered refl reply_is) tt
        (record { lane = k.lane; serial = k.serial; addressed = k.first; link = k.number; linked = omega arith; body = (boxes_small, ap length drawn ∙ helpers_draw_length b i) }))

    none_begun : steps.held_root stage ≡ None
        → ForeignMade b w begin (frame.LinkBegin (leaders_draw b i) (part_at b c s)) (steps.command server (ordered b i begin) (command_body b i begin Begins) stage)
    unfolding command_body steps.command steps.begin
    none_begun e = rw e (refused_made b f w begin (frame.LinkBegin (leaders_draw b i) (part_at b c s)) refusal.NoDeposit k tt)

    pub begin_made : ForeignMade b w begin (frame.LinkBegin (leaders_draw b i) (part_at b c s)) (steps.command server (ordered b i begin) (command_body b i begin Begins) stage)
    begin_made = elim (root_or_none b c s stage holds) [ inl e ↦ none_begun e | inr e ↦ begun_made e ]

  -- ---- an audit

  module _ (k : Orders b f w (line_of c s Audits)) where
    abbrev audit : Line
    audit = line_of c s Audits

    proved_made : IsProved b i c s stage
        → ForeignMade b w audit (frame.LinkAudit (sigma_at b c s) (opened_at b 0 c s)) (steps.command server (ordered b i audit) (command_body b i audit Audits) stage)
    unfolding reply_with result_of
    proved_made p =
        let before = p.begun.before in
        let counted = counted_first b server w c s i k.follows.helper.boxes (omega (arith, before)) in
        let out = audit_effect b server c s i stage p.is ∙ ap (audited_with b server c s) (values_are b server c s counted) in
        subst (ForeignMade b w audit (frame.LinkAudit (sigma_at b c s) (opened_at b 0 c s))) (sym out) (λ entered. row_after b f w audit (helper.Audited (write_at b 1 c s) (closing_at b 1 c s)) AuditWrite server.boxes server.draws
        (frame.LinkReply (frame.ReplyAudited (opened_at b 1 c s) (closing_at b 1 c s)))
        k.follows foreign low k.serial entered (refl, refl) (begun_later b i c s (entry audit AuditWrite) entered (λ never. never) p.begun)
        (k.follows.helper.boxes ∙ audit_boxes b i c s entered)
        (k.follows.helper.draws ∙ draws_same w.journal (entry audit AuditWrite) refl)
        (foreign_reply b i audit _ AuditWrite entered refl refl) tt
        (record { lane = k.lane; serial = k.serial; addressed = k.first; link = k.number; linked = omega arith; body = (opened_is b 1 c s sound foreign (lit< tt), closing_is b 1 c s sound foreign) }))

    none_audited : steps.held_proof stage ≡ None
        → ForeignMade b w audit (frame.LinkAudit (sigma_at b c s) (opened_at b 0 c s)) (steps.command server (ordered b i audit) (command_body b i audit Audits) stage)
    unfolding command_body steps.command steps.audit
    none_audited e = rw e (refused_made b f w audit (frame.LinkAudit (sigma_at b c s) (opened_at b 0 c s)) refusal.NoDeposit k tt)

    not_proved : steps.held_proof stage ≡ Some None
        → ForeignMade b w audit (frame.LinkAudit (sigma_at b c s) (opened_at b 0 c s)) (steps.command server (ordered b i audit) (command_body b i audit Audits) stage)
    unfolding command_body steps.command steps.audit
    not_proved e = rw e (done_made b f w audit (frame.LinkAudit (sigma_at b c s) (opened_at b 0 c s)) (ordered b i audit) want.Write refusal.NotProved k foreign low refl refl tt)

    pub audit_made : ForeignMade b w audit (frame.LinkAudit (sigma_at b c s) (opened_at b 0 c s)) (steps.command server (ordered b i audit) (command_body b i audit Audits) stage)
    audit_made = elim (proof_or_none b i c s stage holds begun) [
      | inl e ↦ none_audited e
      | inr e ↦ elim e [ inl e ↦ not_proved e | inr p ↦ proved_made p ]
    ]

  -- ---- a settle

  module _ (k : Orders b f w (line_of c s Settles)) where
    abbrev settle : Line
    settle = line_of c s Settles

    judged_is : frame.LinkReply (judged (accepted_at b c s))
        ≡ reply_with b i settle (result_of b.settings.boxes (writes_at b 1) (shares_at b 1 i) settle SettleWrite)
    unfolding reply_with result_of
    judged_is = by_test (accepted_at b c s)
      where
        by_test : (t : Bool) → frame.LinkReply (judged t) ≡ reply_with b i settle (Settled t)
        by_test true = refl
        by_test false = refl

    audited_made : IsAudited b i c s stage
        → ForeignMade b w settle (frame.LinkSettle (closing_at b 0 c s)) (steps.command server (ordered b i settle) (command_body b i settle Settles) stage)
    audited_made p =
        let counts = shares_count b 1 i c ∙ p.begun.count in
        subst (ForeignMade b w settle (frame.LinkSettle (closing_at b 0 c s))) (sym (settle_effect b server c s i stage p.is))
        (made_as b w settle (frame.LinkSettle (closing_at b 0 c s)) SettleWrite _ (is_settled (accepted_at b c s)) (λ entered. row_after b f w settle (helper.Done want.Write) SettleWrite (written b c s server.boxes) server.draws
        (frame.LinkReply (judged (accepted_at b c s)))
        k.follows foreign low k.serial entered tt tt
        (ap (written b c s) k.follows.helper.boxes ∙ settle_boxes b i c s entered counts)
        (k.follows.helper.draws ∙ draws_same w.journal (entry settle SettleWrite) refl)
        (foreign_reply b i settle (frame.LinkReply (judged (accepted_at b c s))) SettleWrite entered refl judged_is) p.begun
        (by_test (accepted_at b c s))))
      where
        is_settled : (t : Bool) → does_after (frame.LinkSettle (closing_at b 0 c s)) (frame.LinkReply (judged t)) ≡ SettleWrite
        is_settled true = refl
        is_settled false = refl

        by_test : (t : Bool) → IsFrame (frame_with c s (i + 1) (frame.LinkReply (judged t)))
        by_test true = record { lane = k.lane; serial = k.serial; addressed = k.first; link = k.number; linked = omega arith; body = tt }
        by_test false = record { lane = k.lane; serial = k.serial; addressed = k.first; link = k.number; linked = omega arith; body = tt }

    none_settled : steps.held_closing stage ≡ None
        → ForeignMade b w settle (frame.LinkSettle (closing_at b 0 c s)) (steps.command server (ordered b i settle) (command_body b i settle Settles) stage)
    unfolding command_body steps.command steps.settle
    none_settled e = rw e (refused_made b f w settle (frame.LinkSettle (closing_at b 0 c s)) refusal.NoDeposit k tt)

    pub settle_made : ForeignMade b w settle (frame.LinkSettle (closing_at b 0 c s)) (steps.command server (ordered b i settle) (command_body b i settle Settles) stage)
    settle_made = elim (closing_or_none b i c s stage holds begun) [ inl e ↦ none_settled e | inr p ↦ audited_made p ]
