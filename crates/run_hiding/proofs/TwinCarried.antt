-- After a foreign command both helpers keep replies that differ in the share that they mask alone, and have entered the same.
use Rattle.std.proofs.Common.{◌≡◌, ◌∙◌, ℕ, true, List, Option, Some, None, slice_get, refl, sym, ap, subst, inl, inr}
use Rattle.frame_rules.specs.declared.frame.DepositBody.TheVariants as deposit
use Rattle.frame_rules.specs.Frames as frame
use Rattle.frame_rules.specs.Frames.{PlainFrame, PlainBody}
use Rattle.frame_rules.specs.Spelling.{IsFrame, spelling}
use Rattle.frame_rules.specs.Whole.{is_command, linked, whole}
use Rattle.run_rules.proofs.Basics.{whole_spelled}
use Rattle.mailbox_rules.specs.Requests.{AddBox, AuditWrite, BeginWrite, Entry, Line, Operation, ReadBox, Refuse, Request, RetireBox, SettleWrite}
use Rattle.token_rules.specs.Tokens as token
use Rattle.token_rules.specs.Tokens.{World}
use Rattle.token_rules.specs.Run.{comes}
use Rattle.step_rules.specs.Helper as helper
use Rattle.step_rules.specs.Helper.{Helper}
use Rattle.step_rules.specs.HelperCommands.{arrives, if_command, kept_for, on_link_bytes}
use Rattle.step_rules.specs.Needs.{HadFor, HelperHad, HoldsFor, IsRefused}
use Rattle.step_tokens.specs.HelperRows as helper_rows
use Rattle.step_rules.proofs.HelperNeeds.{helper_needs}
use Rattle.run_rules.specs.Letters.{FrameWorld, Letter, ToHelperLink}
use Rattle.run_rules.specs.Book.{Book, Brought}
use Rattle.run_rules.specs.Values.{key_at}
use Rattle.run_rules.specs.Acts.{Both, act_of, carried_act, does_after}
use Rattle.run_rules.specs.Follows.{ForeignHelperRow, ForeignHolds, HelperRowAt, IsForeignLink}
use Rattle.run_rules.specs.Known.{Known}
use Rattle.run_rules.specs.Plain.{IsHistory}
use Rattle.run_hiding.proofs.LikeFrames.{Ran, fresh}
use Rattle.run_hiding.specs.Flow.{shareless}
use Rattle.run_hiding.proofs.TwinKept as kept
use Rattle.run_hiding.proofs.TwinKept.{arrives_so}
use Rattle.run_hiding.proofs.TwinLinks.{linked_is, orders_run, read}
use Rattle.run_hiding.proofs.TwinOrders.{reply_is_frame}
use Rattle.run_hiding.proofs.Twins.{Alike, LikeBytes, Paired}

-- a helper's turn at a command that it reads, where its number is the next
module _ (h : Helper) (bytes : List ℕ) (y : PlainFrame) (read : linked is_command h.server.settings.width bytes ≡ Some y) where
  turn_is : on_link_bytes h bytes ≡ arrives h y
  unfolding if_command
  turn_is = ap (λ o. if_command h o) read

same_reply : (x y : PlainFrame) → (let o : Option PlainFrame = Some (record x { body = shareless x.body }) in o) ≡ Some (record y { body = shareless y.body })
    → IsFrame x → IsFrame y → LikeBytes (spelling y) (spelling x)
same_reply x y e fx fy = record {
  one = y;
  two = x;
  first = refl;
  second = refl;
  is_one = fy;
  is_two = fx;
  link = at (λ (z : PlainFrame). z.link);
  lane = at (λ (z : PlainFrame). z.lane);
  serial = at (λ (z : PlainFrame). z.serial);
  body = at_body;
}
  where
    inside : {x y : PlainFrame} → (let o : Option PlainFrame = Some x in o) ≡ Some y → x ≡ y
    inside e = cc e

    at : (g : PlainFrame → ℕ) → g (record x { body = shareless x.body }) ≡ g (record y { body = shareless y.body })
    at g = ap g (inside e)

    at_body : shareless x.body ≡ shareless y.body
    at_body = ap (λ (z : PlainFrame). z.body) (inside e)

-- an answer that carries a command out has a fresh reply
fresh_is : (a : helper.Answer) (reply : PlainFrame) → a ≡ helper.Carried reply → fresh a ≡ Some (record reply { body = shareless reply.body })
fresh_is a reply e = ap (λ a. fresh a) e

some_same : {x y : PlainFrame} → (let o : Option PlainFrame = Some x in o) ≡ Some y → x ≡ y
some_same e = cc

none_says : (h : Helper) (bytes : List ℕ) → linked is_command h.server.settings.width bytes ≡ None → (reply : PlainFrame) → (on_link_bytes h bytes).answer ≡ helper.Carried reply → ⊥
unfolding if_command
none_says h bytes e reply says = let never : helper.Ignored ≡ helper.Carried reply = sym (ap (λ o. (if_command h o).answer) e) ∙ says in cc never

carried_so : (h : Helper) (y : PlainFrame) (turn : helper.LinkTurn) → kept.Arrives h y turn → (reply : PlainFrame) → turn.answer ≡ helper.Carried reply
    → kept.Carries h y turn.helper turn.answer
carried_so h y turn (inl c) reply says = c
carried_so h y turn (inr (inl r)) reply says = absurd (let never : helper.Repeated (kept_for h y.link) ≡ helper.Carried reply = sym r.says ∙ says in cc never)
carried_so h y turn (inr (inr r)) reply says = absurd (let never : helper.Ignored ≡ helper.Carried reply = sym r.says ∙ says in cc never)

-- a refused command adds no box
not_refused : (order reply : PlainBody) (address : ℕ) → does_after order reply ≡ AddBox address → IsRefused reply → ⊥
not_refused order (frame.LinkReply (frame.ReplyRefused r)) address e h = cc e
not_refused order reply address e h = h

after_reply : (order reply : PlainBody) → (P : Operation → Type 0) → ((address : ℕ) → order ≡ frame.LinkRegister address → P (AddBox address)) → P Refuse → P BeginWrite → P AuditWrite → P SettleWrite
    → ((n : ℕ) → P (ReadBox n)) → ((n : ℕ) → P (RetireBox n)) → P (does_after order reply)
after_reply order (frame.LinkReply (frame.ReplyRefused r)) P a f b u s r' t = f
after_reply (frame.LinkRegister address) reply P a f b u s r t = a address refl
after_reply (frame.LinkBegin drawn part) reply P a f b u s r t = b
after_reply (frame.LinkAudit sigma opened) reply P a f b u s r t = u
after_reply (frame.LinkSettle closing) reply P a f b u s r t = s
after_reply (frame.LinkRead n) reply P a f b u s r t = r n
after_reply (frame.LinkRetire n) reply P a f b u s r t = t n
after_reply order reply P a f b u s r t = f

-- what adds a box is a register, whose row holds the key
registers : (order reply : PlainBody) (address : ℕ) → does_after order reply ≡ AddBox address → (h : helper.Server) (c : PlainFrame) (stage : helper.Stage)
    → HoldsFor h c order stage → (key : List ℕ) × (stage ≡ helper.Deposited (deposit.Register key))
registers order reply address e h c stage holds =
    after_reply order reply (λ does. does ≡ AddBox address → (key : List ℕ) × (stage ≡ helper.Deposited (deposit.Register key)))
    (λ a is e. subst (λ o. HoldsFor h c o stage) is holds)
    (λ e. absurd (cc e)) (λ e. absurd (cc e)) (λ e. absurd (cc e)) (λ e. absurd (cc e)) (λ n e. absurd (cc e)) (λ n e. absurd (cc e)) e

module _ (b : Book) (sent : ℕ → List Request) (commands : List Line) (entries : List Entry) (brought : Brought) (v z : World) (history : IsHistory b)
    (s t : Both) (pair : Paired b sent commands entries brought v z history s t) (alike : Alike b sent commands entries brought v z history s t)
    (n i : ℕ) (x : Line) (foreign : b.foreign x.lane ≡ true) (l m : Letter) (at : slice_get s.world.pool i ≡ Some (token.Ordered n x)) (there : slice_get t.world.pool i ≡ Some (token.Ordered n x)) where
  abbrev d : Book
  d = record b { sent = sent; commands = commands; entries = entries; brought = brought }

  abbrev f : FrameWorld
  f = s.frames

  abbrev g : FrameWorld
  g = t.frames

  module _ (one : IsForeignLink b l ToHelperLink n x (token.Ordered n x)) (two : IsForeignLink d m ToHelperLink n x (token.Ordered n x))
      (after : Known b v (comes (λ k. act_of f (token.Ordered n x) l) s.world (token.Ordered n x)))
      (other_after : Known d z (comes (λ k. act_of g (token.Ordered n x) m) t.world (token.Ordered n x))) where
    abbrev first : helper.LinkTurn
    first = on_link_bytes f.helper l.bytes

    abbrev second : helper.LinkTurn
    second = on_link_bytes g.helper m.bytes

    same_fresh : fresh second.answer ≡ fresh first.answer
    same_fresh = ap (λ (y : Ran). y.reply) (orders_run b sent commands entries brought v z history s t pair alike n i x foreign l m at one two)

    -- the reply to a command that was carried out is a frame
    framed : (reply : PlainFrame) → first.answer ≡ helper.Carried reply → IsFrame reply
    framed reply says = by_order (linked is_command f.helper.server.settings.width l.bytes) refl
      where
        is_reply : {x y : PlainFrame} → helper.Carried x ≡ helper.Carried y → x ≡ y
        is_reply e = cc e

        by_order : (o : Option PlainFrame) → linked is_command f.helper.server.settings.width l.bytes ≡ o → IsFrame reply
        by_order None e = absurd (none_says f.helper l.bytes e reply says)
        by_order (Some y) e =
            let same = linked_is is_command _ l.bytes one.frame y (read b sent commands entries brought v z history s t pair alike n i x foreign l m at one two) e in
            let turn = turn_is f.helper l.bytes y e in
            let c = carried_so f.helper y (arrives f.helper y) (arrives_so f.helper y) reply (sym (ap (λ (t : helper.LinkTurn). t.answer) turn) ∙ says) in
            subst IsFrame (is_reply (sym c.says ∙ sym (ap (λ (t : helper.LinkTurn). t.answer) turn) ∙ says))
            (reply_is_frame b f v s.world n i x l pair.known pair.follows foreign at one after y e same c)

    other_framed : (reply : PlainFrame) → second.answer ≡ helper.Carried reply → IsFrame reply
    other_framed reply says = by_order (linked is_command g.helper.server.settings.width m.bytes) refl
      where
        is_reply : {x y : PlainFrame} → helper.Carried x ≡ helper.Carried y → x ≡ y
        is_reply e = cc e

        by_order : (o : Option PlainFrame) → linked is_command g.helper.server.settings.width m.bytes ≡ o → IsFrame reply
        by_order None e = absurd (none_says g.helper m.bytes e reply says)
        by_order (Some y) e =
            let whole_is = ap whole two.spelled.bytes ∙ whole_spelled two.frame two.spelled.is_frame in
            let same = linked_is is_command _ m.bytes two.frame y whole_is e in
            let turn = turn_is g.helper m.bytes y e in
            let c = carried_so g.helper y (arrives g.helper y) (arrives_so g.helper y) reply (sym (ap (λ (t : helper.LinkTurn). t.answer) turn) ∙ says) in
            subst IsFrame (is_reply (sym c.says ∙ sym (ap (λ (t : helper.LinkTurn). t.answer) turn) ∙ says))
            (reply_is_frame d g z t.world n i x m pair.other_known pair.others foreign there two other_after y e same c)

    pub new_alike : (p q : PlainFrame) → first.answer ≡ helper.Carried p → second.answer ≡ helper.Carried q → LikeBytes (spelling p) (spelling q)
    new_alike p q mine theirs =
        same_reply q p (sym (fresh_is second.answer q theirs) ∙ same_fresh ∙ fresh_is first.answer p mine) (other_framed q theirs) (framed p mine)

    -- ---- a box that was registered has the same key in both

    abbrev row : helper.Row
    row = helper.row_at f.helper.server x.lane

    pub key_same : (key : List ℕ) → row.serial ≡ x.serial → row.stage ≡ helper.Deposited (deposit.Register key) → key_at d 1 x.lane x.serial ≡ key_at b 1 x.lane x.serial
    key_same key serial stage =
        let place = (pair.known.lawful.coherent.pool i (token.Ordered n x) at).1 in
        let low = (pair.follows.leader.foreign.there place.place x place.is foreign).0 in
        let mine : ForeignHelperRow b x.lane row (s.world.lanes x.lane).helper = subst (λ t. HelperRowAt b x.lane t row (s.world.lanes x.lane).helper) foreign (pair.follows.helper.rows x.lane low) in
        let other : ForeignHelperRow d x.lane (helper.row_at g.helper.server x.lane) (t.world.lanes x.lane).helper =
        subst (λ f. HelperRowAt d x.lane f (helper.row_at g.helper.server x.lane) (t.world.lanes x.lane).helper) foreign (pair.others.helper.rows x.lane low) in
        let theirs : ForeignHolds d x.lane row.serial row.stage = subst (λ (r : helper.Row). ForeignHolds d x.lane r.serial r.stage) (alike.helper x.lane foreign) other.holds in
        let a : key ≡ key_at b 1 x.lane row.serial = subst (ForeignHolds b x.lane row.serial) stage mine.holds in
        let e : key ≡ key_at d 1 x.lane row.serial = subst (ForeignHolds d x.lane row.serial) stage theirs in
        subst (λ n. key_at d 1 x.lane n ≡ key_at b 1 x.lane n) serial (sym e ∙ a)

    pub key_entered : (address : ℕ) → (act_of f (token.Ordered n x) l).does ≡ AddBox address → key_at d 1 x.lane x.serial ≡ key_at b 1 x.lane x.serial
    key_entered address does = by_parts (linked is_command f.helper.server.settings.width l.bytes) first.answer refl refl (helper_needs f.helper l.bytes) does
      where
        by_has : (y : PlainFrame) → linked is_command f.helper.server.settings.width l.bytes ≡ Some y → (reply : PlainFrame) → does_after y.body reply.body ≡ AddBox address
            → HelperHad f.helper l.bytes → key_at d 1 x.lane x.serial ≡ key_at b 1 x.lane x.serial
        by_has y e reply does has =
            let is = linked_is is_command _ l.bytes one.frame y (read b sent commands entries brought v z history s t pair alike n i x foreign l m at one two) e in
            let same : has.command ≡ y = some_same (sym has.read ∙ e) in
            let lane : has.command.lane ≡ x.lane = ap (λ (y : PlainFrame). y.lane) (same ∙ is) ∙ one.lane in
            let serial : has.command.serial ≡ x.serial = ap (λ (y : PlainFrame). y.serial) (same ∙ is) ∙ one.serial in
            let holds = registers y.body reply.body address does f.helper.server has.command (helper.row_at f.helper.server has.command.lane).stage (subst (λ body. HoldsFor f.helper.server has.command body (helper.row_at f.helper.server has.command.lane).stage) (ap (λ (y : PlainFrame). y.body) same) has.holds) in
            key_same holds.0 (ap (λ c. (helper.row_at f.helper.server c).serial) (sym lane) ∙ has.serial ∙ serial) (ap (λ c. (helper.row_at f.helper.server c).stage) (sym lane) ∙ holds.1)

        by_parts : (o : Option PlainFrame) (answer : helper.Answer) → linked is_command f.helper.server.settings.width l.bytes ≡ o → first.answer ≡ answer → HadFor answer f.helper l.bytes
            → (carried_act (helper_rows.bare (helper.row_at first.helper.server x.lane)) o answer).does ≡ AddBox address → key_at d 1 x.lane x.serial ≡ key_at b 1 x.lane x.serial
        by_parts (Some y) (helper.Carried reply) e a had does = by_has y e reply does (had (λ refused. not_refused y.body reply.body address does refused))
        by_parts (Some y) (helper.Repeated bytes) e a had does = absurd (cc does)
        by_parts (Some y) helper.Ignored e a had does = absurd (cc does)
        by_parts None (helper.Carried reply) e a had does = absurd (cc does)
        by_parts None (helper.Repeated bytes) e a had does = absurd (cc does)
        by_parts None helper.Ignored e a had does = absurd (cc does)
