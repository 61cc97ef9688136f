-- The reply to any command of a foreign lane comes to the leader, in both runs.
use Rattle.std.proofs.Common.{◌≡◌, ◌∙◌, ℕ, ◌<◌, ◌≤◌, ◌^◌, ◌+◌, cond, true, false, Bool, Option, Some, None, slice_get, refl, sym, ap, subst, inl, inr}
use Rattle.express_words.specs.declared.refusal.Refusal.{Refusal}
use Rattle.frame_rules.specs.Frames as frame
use Rattle.frame_rules.specs.Frames.{PlainFrame, PlainBody}
use Rattle.frame_rules.specs.Spelling.{IsBody, IsReplyRefusal}
use Rattle.mailbox_rules.specs.Requests.{Command, Registers, Begins, Audits, Settles, Reads, Retires, Line, entry, Operation, AddBox, ReadBox, RetireBox}
use Rattle.mailbox_rules.specs.Tables as tables
use Rattle.mailbox_rules.specs.Tables.{Mailbox, Result, given, result_of}
use Rattle.token_rules.specs.Tokens.{World}
use Rattle.token_rules.specs.Run.{line_of}
use Rattle.step_rules.specs.Leader.{Leader, AckTurn}
use Rattle.step_rules.specs.LeaderReplies as steps
use Rattle.run_rules.specs.Letters.{FrameWorld}
use Rattle.run_rules.specs.Book.{Book}
use Rattle.run_rules.specs.Values.{accepted_at, shares_at, writes_at, boxes_at}
use Rattle.run_rules.specs.Frames.{frame_with, reply_with}
use Rattle.run_rules.specs.Follows.{ForeignOrder, ForeignReply, brought_does, Follows}
use Rattle.run_rules.specs.Known.{Known}
use Rattle.run_rules.proofs.ReadBasics.{command_for, link_for, does_for}
use Rattle.run_rules.proofs.ForeignLeaderApplied.{Oldest}
use Rattle.run_rules.proofs.ForeignLeaderBoxes.{IsRefused, refused_boxes, nothing_boxes}
use Rattle.run_rules.proofs.ForeignLeaderCommands.{register_acks, begin_acks, audit_acks, settle_acks, live_acks}
use Rattle.run_rules.proofs.ForeignLeaderReplies.{LeaderAcks, refused_acks}
use Rattle.run_rules.proofs.WriteLeaderSettled.{settled_reply}

module _ (b : Book) (f : FrameWorld) (v w : World) (c s : ℕ) (known : Known b v w) (h : Follows b f w)
    (lane : c < 2 ^ 16) (small : s < 2 ^ 32) (first : 1 ≤ s) where
  abbrev i : ℕ
  i = w.acknowledged

  abbrev a : Leader
  a = f.leader

  -- what the leader makes of a body
  abbrev fitted : PlainBody → PlainBody → AckTurn
  fitted order body = steps.if_fits a (steps.fits a (frame_with c s (i + 1) order) body (steps.refusal_in body))

  -- a refusal
  refused_so : (y : Command) (k : Oldest b f w c s y) (order body : PlainBody) (r : Refusal) → body ≡ frame.LinkReply (frame.ReplyRefused r)
      → IsBody body → boxes_at b 0 (i + 1) ≡ boxes_at b 0 i → LeaderAcks b f w (line_of c s y) (fitted order body)
  refused_so y k order body r e is boxed =
      let small_refusal : IsReplyRefusal r = subst IsBody e is in
      subst (λ z. LeaderAcks b f w (line_of c s y) (fitted order z)) (sym e) (refused_acks b f v w c s y known h k lane small first order r small_refusal boxed)

  -- a read or retire, by the box at the helper
  read_acks : (stays : Bool) (k : Oldest b f w c s (command_for stays)) (n : ℕ) (body : PlainBody)
      → slice_get b.entries i ≡ Some (entry (line_of c s (command_for stays)) (does_for stays n))
      → body ≡ reply_with b i (line_of c s (command_for stays)) (given n (slice_get (shares_at b 1 i).boxes n)) → IsBody body
      → LeaderAcks b f w (line_of c s (command_for stays)) (fitted (link_for stays n) body)
  unfolding reply_with result_of
  read_acks stays k n body entered e is = by_found (slice_get (shares_at b 1 i).boxes n) refl e
    where
      x : Line
      x = line_of c s (command_for stays)

      result_is : (t : Bool) (found : Option Mailbox) → slice_get (shares_at b 1 i).boxes n ≡ found
          → given n found ≡ result_of b.settings.boxes (writes_at b 1) (shares_at b 1 i) (line_of c s (command_for t)) (does_for t n)
      result_is true found e = ap (given n) (sym e)
      result_is false found e = ap (given n) (sym e)

      gone : (found : Option Mailbox) → slice_get (shares_at b 1 i).boxes n ≡ found → given n found ≡ tables.NoBox n → body ≡ reply_with b i (line_of c s (command_for stays)) (given n found)
          → LeaderAcks b f w (line_of c s (command_for stays)) (fitted (link_for stays n) body)
      gone found at none e =
          refused_so (command_for stays) k (link_for stays n) body _ (e ∙ ap (reply_with b i (line_of c s (command_for stays))) none) is
          (refused_boxes b i (line_of c s (command_for stays)) (does_for stays n) entered
          (subst (λ r. IsRefused (reply_with b i (line_of c s (command_for stays)) r)) (sym none ∙ result_is stays found at) tt))

      by_life : (m : Mailbox) (t : Bool) → m.live ≡ t → slice_get (shares_at b 1 i).boxes n ≡ Some m → body ≡ reply_with b i (line_of c s (command_for stays)) (given n (Some m))
          → LeaderAcks b f w (line_of c s (command_for stays)) (fitted (link_for stays n) body)
      by_life m true live at e =
          let gave : given n (Some m) ≡ tables.Gave n m.bytes = ap (λ t. cond t (tables.Gave n m.bytes) (tables.NoBox n)) live in
          let same = e ∙ ap (reply_with b i (line_of c s (command_for stays))) gave in
          subst (λ z. LeaderAcks b f w (line_of c s (command_for stays)) (fitted (link_for stays n) z)) (sym same)
          (live_acks b f v w c s known h lane small first stays k n m entered at live)
      by_life m false dead at e = gone (Some m) at (ap (λ t. cond t (tables.Gave n m.bytes) (tables.NoBox n)) dead) e

      by_found : (found : Option Mailbox) → slice_get (shares_at b 1 i).boxes n ≡ found → body ≡ reply_with b i (line_of c s (command_for stays)) (given n found)
          → LeaderAcks b f w (line_of c s (command_for stays)) (fitted (link_for stays n) body)
      by_found None at e = gone None at refl e
      by_found (Some m) at e = by_life m m.live refl at e

  -- any command, by what its entry did
  abbrev Fitting : PlainBody → PlainBody → Command → Type 0
  Fitting order body y = (k : Oldest b f w c s y) (does : Operation) → slice_get b.entries i ≡ Some (entry (line_of c s y) does)
      → does ≡ brought_does b (line_of c s y)
      → body ≡ reply_with b i (line_of c s y) (result_of b.settings.boxes (writes_at b 1) (shares_at b 1 i) (line_of c s y) does)
      → IsBody body → LeaderAcks b f w (line_of c s y) (fitted order body)

  settled_so : (y : Command) (t : Bool) → reply_with b i (line_of c s y) (tables.Settled t) ≡ settled_reply t
  unfolding reply_with
  settled_so y true = refl
  settled_so y false = refl

  fitting : (order body : PlainBody) (y : Command) → ForeignOrder b i (line_of c s y) order → Fitting order body y
  unfolding reply_with result_of
  fitting (frame.LinkRegister address) body y o =
      subst (Fitting (frame.LinkRegister address) body) (sym o.0) (λ k does entered did is fr.
      let same : does ≡ AddBox address = did ∙ ap AddBox (sym o.1) in
      register_acks b f v w c s known h lane small first k address o.1 (entered ∙ ap (λ d. Some (entry (line_of c s Registers) d)) same) body
      (is ∙ ap (λ d. reply_with b i (line_of c s Registers) (result_of b.settings.boxes (writes_at b 1) (shares_at b 1 i) (line_of c s Registers) d)) same))
  fitting (frame.LinkBegin draw part) body y o =
      subst (Fitting (frame.LinkBegin draw part) body) (sym o.0) (λ k does entered did is fr.
      begin_acks b f v w c s known h lane small first k draw part o.1 o.2 (entered ∙ ap (λ d. Some (entry (line_of c s Begins) d)) did) body
      (is ∙ ap (λ d. reply_with b i (line_of c s Begins) (result_of b.settings.boxes (writes_at b 1) (shares_at b 1 i) (line_of c s Begins) d)) did))
  fitting (frame.LinkAudit sigma own) body y o =
      subst (Fitting (frame.LinkAudit sigma own) body) (sym o.0) (λ k does entered did is fr.
      audit_acks b f v w c s known h lane small first k sigma own (entered ∙ ap (λ d. Some (entry (line_of c s Audits) d)) did) body
      (is ∙ ap (λ d. reply_with b i (line_of c s Audits) (result_of b.settings.boxes (writes_at b 1) (shares_at b 1 i) (line_of c s Audits) d)) did))
  fitting (frame.LinkSettle closing) body y o =
      subst (Fitting (frame.LinkSettle closing) body) (sym o.0) (λ k does entered did is fr.
      settle_acks b f v w c s known h lane small first k closing (entered ∙ ap (λ d. Some (entry (line_of c s Settles) d)) did) body
      (is ∙ ap (λ d. reply_with b i (line_of c s Settles) (result_of b.settings.boxes (writes_at b 1) (shares_at b 1 i) (line_of c s Settles) d)) did ∙ settled_so Settles (accepted_at b c s)))
  fitting (frame.LinkRead n) body y o =
      subst (Fitting (frame.LinkRead n) body) (sym o.0) (λ k does entered did is fr.
      let same : does ≡ ReadBox n = did ∙ ap ReadBox (sym o.1) in
      read_acks true k n body (entered ∙ ap (λ d. Some (entry (line_of c s Reads) d)) same)
      (is ∙ ap (λ d. reply_with b i (line_of c s Reads) (result_of b.settings.boxes (writes_at b 1) (shares_at b 1 i) (line_of c s Reads) d)) same) fr)
  fitting (frame.LinkRetire n) body y o =
      subst (Fitting (frame.LinkRetire n) body) (sym o.0) (λ k does entered did is fr.
      let same : does ≡ RetireBox n = did ∙ ap RetireBox (sym o.1) in
      read_acks false k n body (entered ∙ ap (λ d. Some (entry (line_of c s Retires) d)) same)
      (is ∙ ap (λ d. reply_with b i (line_of c s Retires) (result_of b.settings.boxes (writes_at b 1) (shares_at b 1 i) (line_of c s Retires) d)) same) fr)
  fitting order body y o = absurd o

  pub fitted_acks : (y : Command) (k : Oldest b f w c s y) (order body : PlainBody) → ForeignOrder b i (line_of c s y) order
      → ForeignReply b i (line_of c s y) body → IsBody body → LeaderAcks b f w (line_of c s y) (fitted order body)
  fitted_acks y k order body o reply is = elim reply.answers [
    | inl none ↦
        refused_so y k order body none.1.0 none.1.1 is
        (nothing_boxes b i (line_of c s y) (reply.entered ∙ ap (λ d. Some (entry (line_of c s y) d)) none.0))
    | inr did ↦ fitting order body y o k reply.does reply.entered did.0 did.1 is
  ]
