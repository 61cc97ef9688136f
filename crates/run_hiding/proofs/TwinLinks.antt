-- A foreign command comes to the helper, or the reply to one to the leader, in both runs.
use Rattle.std.proofs.Common.{◌≡◌, ◌∙◌, ◌<◌, ◌+◌, ◌-◌, ◌&&◌, ℕ, Bool, true, false, cond, nat_eq, List, Option, Some, None, Ok, Err, Result, slice_get, refl, sym, ap, ap₂, subst, arith, inl, inr}
use Rattle.std.proofs.lemmas.Bool.{cases_eq, ne_eqb}
use Rattle.express_words.specs.declared.refusal.Refusal.{Refusal}
use Rattle.frame_rules.specs.Frames.{PlainFrame, PlainBody}
use Rattle.frame_rules.specs.Spelling.{spelling}
use Rattle.frame_rules.specs.Whole.{has_width, if_linked, is_command, is_reply, linked, whole}
use Rattle.mailbox_rules.specs.Requests.{Entry, Line, Request}
use Rattle.token_rules.specs.Tokens as token
use Rattle.token_rules.specs.Tokens.{Act, World, no_act}
use Rattle.step_rules.specs.Helper as helper
use Rattle.step_rules.specs.Helper.{Helper}
use Rattle.step_rules.specs.HelperCommands.{arrives, if_command, on_link_bytes}
use Rattle.step_rules.specs.Leader as leader
use Rattle.step_rules.specs.Leader.{Leader}
use Rattle.step_rules.specs.LeaderReplies.{answers, if_reply, on_reply_bytes}
use Rattle.step_tokens.specs.HelperRows as helper_rows
use Rattle.step_tokens.specs.LeaderRows as leader_rows
use Rattle.run_rules.specs.Letters.{FrameWorld, Letter, ToHelperLink, ToLeaderLink}
use Rattle.run_rules.specs.Book.{Book, Brought}
use Rattle.run_rules.specs.Acts.{Both, carried_act, does_after, fits_of, order_act, reply_act, settles_of}
use Rattle.run_rules.specs.Follows.{ForeignOrder, IsForeignLink}
use Rattle.run_rules.specs.Plain.{IsHistory}
use Rattle.run_rules.proofs.Basics.{whole_spelled}
use Rattle.run_rules.proofs.ForeignFits.{foreign_read}
use Rattle.run_rules.proofs.ForeignLeaderLink.{linked_either}
use Rattle.run_hiding.proofs.Agree.{one_order}
use Rattle.run_hiding.proofs.LikeFrames.{Ran, arrivals_alike, fresh, hidden_does, ran}
use Rattle.run_hiding.specs.Flow.{shareless}
use Rattle.run_hiding.proofs.LikeLeader.{hidden_row}
use Rattle.run_hiding.proofs.LikeReplies.{Heard, answers_alike, heard, hidden_ack}
use Rattle.run_hiding.proofs.OtherRows.{helper_link_rows, leader_link_rows}
use Rattle.run_hiding.proofs.TwinClients.{bare_hidden}
use Rattle.run_hiding.proofs.Twins.{Alike, LikeBytes, Paired, helper_boxes, helper_is, leader_boxes, leader_is}

-- what is read on the link is the frame that was spelled
pub linked_is : (class : PlainBody → Bool) (width : ℕ) (bytes : List ℕ) (x y : PlainFrame) → whole bytes ≡ Ok x → linked class width bytes ≡ Some y → y ≡ x
unfolding linked
linked_is class width bytes x y read e = of_found (whole bytes) read e
  where
    of_found : (found : Result PlainFrame Refusal) → found ≡ Ok x → if_linked class width found ≡ Some y → y ≡ x
    of_found (Err r) p q = absurd (cc p)
    of_found (Ok k) p q = of_test (class k.body && has_width width k.body) q
      where
        of_test : (t : Bool) → cond t (Some k) None ≡ Some y → y ≡ x
        of_test true q = cc (p, q)
        of_test false q = absurd (cc q)

ok_same : {x y : PlainFrame} → (let r : Result PlainFrame Refusal = Ok x in r) ≡ Ok y → x ≡ y
ok_same e = cc

some_same : {x y : PlainFrame} → (let o : Option PlainFrame = Some x in o) ≡ Some y → x ≡ y
some_same e = cc

fits_hidden : (a : leader.Ack) → fits_of (hidden_ack a) ≡ fits_of a
fits_hidden (leader.ToLane lane reply) = refl
fits_hidden (leader.Settles n command) = refl
fits_hidden leader.Ignored = refl

settles_hidden : (a : leader.Ack) → settles_of (hidden_ack a) ≡ settles_of a
settles_hidden (leader.ToLane lane reply) = refl
settles_hidden (leader.Settles n command) = refl
settles_hidden leader.Ignored = refl

answers_none : (a e : Leader) (x y : PlainFrame) (c : ℕ) → hidden_row (leader.row_at a c) ≡ hidden_row (leader.row_at e c)
    → heard (hidden_row (leader.row_at (answers a x None).leader c)) (hidden_ack (answers a x None).ack) ≡ heard (hidden_row (leader.row_at (answers e y None).leader c)) (hidden_ack (answers e y None).ack)
unfolding answers
answers_none a e x y c same = ap (λ r. heard r leader.Ignored) same

module _ (b : Book) (sent : ℕ → List Request) (commands : List Line) (entries : List Entry) (brought : Brought) (v z : World) (history : IsHistory b)
    (s t : Both) (pair : Paired b sent commands entries brought v z history s t) (alike : Alike b sent commands entries brought v z history s t)
    (n i : ℕ) (x : Line) (foreign : b.foreign x.lane ≡ true) where
  abbrev d : Book
  d = record b { sent = sent; commands = commands; entries = entries; brought = brought }

  abbrev f : FrameWorld
  f = s.frames

  abbrev g : FrameWorld
  g = t.frames

  -- ---- a command

  module _ (l m : Letter) (at : slice_get s.world.pool i ≡ Some (token.Ordered n x)) (one : IsForeignLink b l ToHelperLink n x (token.Ordered n x)) (two : IsForeignLink d m ToHelperLink n x (token.Ordered n x)) where
    abbrev place : ℕ
    place = (pair.known.lawful.coherent.pool i (token.Ordered n x) at).1.place

    there : slice_get s.world.commands place ≡ Some x
    there = (pair.known.lawful.coherent.pool i (token.Ordered n x) at).1.is

    bodies : two.frame.body ≡ one.frame.body
    bodies =
        let next = (pair.known.lawful.coherent.pool i (token.Ordered n x) at).1.next in
        let number : n - 1 ≡ place = omega (arith, next) in
        let same = alike.orders place x there foreign in
        one_order b sent commands entries brought place x one.frame.body two.frame.body same (subst (λ k. ForeignOrder b k x one.frame.body) number one.body)
        (subst (λ k. ForeignOrder d k x two.frame.body) number two.body)

    frames_same : two.frame ≡ one.frame
    frames_same =
        let lane = two.lane ∙ sym one.lane in
        let serial = two.serial ∙ sym one.serial in
        let link = two.link ∙ sym one.link in
        let body = bodies in
        λ i. record { lane = lane i; serial = serial i; link = link i; body = body i }

    pub order_bytes : m.bytes ≡ l.bytes
    order_bytes = two.spelled.bytes ∙ ap (λ k. spelling k) frames_same ∙ sym one.spelled.bytes

    pub read : whole l.bytes ≡ Ok one.frame
    read = ap whole one.spelled.bytes ∙ whole_spelled one.frame one.spelled.is_frame

    low : x.lane < b.settings.lanes
    low = (pair.follows.leader.foreign.there place x there foreign).0

    abbrev out : helper.LinkTurn → Ran
    out u = ran (helper.row_at u.helper.server x.lane) (fresh u.answer)

    widths : g.helper.server.settings.width ≡ f.helper.server.settings.width
    widths = ap (λ y. y.width) (pair.others.helper.settings ∙ sym pair.follows.helper.settings)

    abbrev order : Option PlainFrame
    order = linked is_command f.helper.server.settings.width l.bytes

    order_is : linked is_command g.helper.server.settings.width m.bytes ≡ order
    order_is = ap₂ (λ w bytes. linked is_command w bytes) widths order_bytes

    pub orders_run : out (on_link_bytes g.helper m.bytes) ≡ out (on_link_bytes f.helper l.bytes)
    unfolding if_command
    orders_run = ap (λ o. out (if_command g.helper o)) order_is ∙ by_order order refl
      where
        by_order : (o : Option PlainFrame) → order ≡ o → out (if_command g.helper o) ≡ out (if_command f.helper o)
        by_order None e = ap (λ r. ran r None) (alike.helper x.lane foreign)
        by_order (Some y) e =
            let mine : y.lane ≡ x.lane = ap (λ (y : PlainFrame). y.lane) (linked_is is_command _ l.bytes one.frame y read e) ∙ one.lane in
            let row : helper.row_at g.helper.server y.lane ≡ helper.row_at f.helper.server y.lane = alike.helper y.lane (ap b.foreign mine ∙ foreign) in
            let count = pair.follows.helper.count in
            let other = pair.others.helper.count in
            let few = low in
            let like = helper_boxes b sent commands entries brought v z history s t pair alike in
            let arrive = arrivals_alike f.helper g.helper.server.boxes g.helper.server.rows g.helper.replies y like (omega (arith, mine, few, count)) (omega (arith, mine, few, other)) row in
            subst (λ c. ran (helper.row_at (arrives g.helper y).helper.server c) (fresh (arrives g.helper y).answer) ≡ ran (helper.row_at (arrives f.helper y).helper.server c) (fresh (arrives f.helper y).answer)) mine
            (ap (λ h. ran (helper.row_at (arrives h y).helper.server y.lane) (fresh (arrives h y).answer)) (sym (helper_is b sent commands entries brought v z history s t pair alike)) ∙ arrive)

    -- the act is told by the row and the fresh reply
    act_from : Option PlainFrame → Ran → Act
    act_from o y = by_reply o y.reply
      where
        by_reply : Option PlainFrame → Option PlainFrame → Act
        by_reply (Some command) (Some reply) = record no_act { row = helper_rows.bare y.row; does = does_after command.body reply.body }
        by_reply o reply = no_act

    act_is : (r : token.Row) (row : helper.Row) (o : Option PlainFrame) (answer : helper.Answer) → r ≡ helper_rows.bare row → carried_act r o answer ≡ act_from o (ran row (fresh answer))
    unfolding act_from
    act_is r row (Some command) (helper.Carried reply) e =
        ap₂ (λ r does. record no_act { row = r; does = does }) e (sym (hidden_does command.body reply.body))
    act_is r row (Some command) (helper.Repeated bytes) e = refl
    act_is r row (Some command) helper.Ignored e = refl
    act_is r row None (helper.Carried reply) e = refl
    act_is r row None (helper.Repeated bytes) e = refl
    act_is r row None helper.Ignored e = refl

    pub order_acts : order_act g x.lane m.bytes ≡ order_act f x.lane l.bytes
    order_acts =
        act_is _ (helper.row_at (on_link_bytes g.helper m.bytes).helper.server x.lane) (linked is_command g.helper.server.settings.width m.bytes) (on_link_bytes g.helper m.bytes).answer refl
        ∙ ap₂ (λ o y. act_from o y) order_is orders_run
        ∙ sym (act_is _ (helper.row_at (on_link_bytes f.helper l.bytes).helper.server x.lane) order (on_link_bytes f.helper l.bytes).answer refl)

    pub order_rows : (other : ℕ) → b.foreign other ≡ true
        → helper.row_at (on_link_bytes g.helper m.bytes).helper.server other ≡ helper.row_at (on_link_bytes f.helper l.bytes).helper.server other
    order_rows other is = elim (cases_eq x.lane other) [
      | inl same ↦ subst (λ c. helper.row_at (on_link_bytes g.helper m.bytes).helper.server c ≡ helper.row_at (on_link_bytes f.helper l.bytes).helper.server c) same (ap (λ (y : Ran). y.row) orders_run)
      | inr never ↦
          helper_link_rows g.helper m.bytes other (λ y e lane. mine other never y (sym order_is ∙ e) lane) ∙ alike.helper other is
          ∙ sym (helper_link_rows f.helper l.bytes other (mine other never))
    ]
      where
        mine : (other : ℕ) → (x.lane ≡ other → ⊥) → (y : PlainFrame) → order ≡ Some y → y.lane ≡ other → ⊥
        mine other never y e lane = never (sym one.lane ∙ sym (ap (λ (y : PlainFrame). y.lane) (linked_is is_command _ l.bytes one.frame y read e)) ∙ lane)

  -- ---- a reply

  module _ (l m : Letter) (at : slice_get s.world.pool i ≡ Some (token.Replied n x)) (one : IsForeignLink b l ToLeaderLink n x (token.Replied n x)) (two : IsForeignLink d m ToLeaderLink n x (token.Replied n x))
      (like : LikeBytes l.bytes m.bytes) (heads : n ≡ s.world.acknowledged + 1 → slice_get g.leader.outstanding 0 ≡ slice_get f.leader.outstanding 0)
      (named : (k : PlainFrame) → slice_get f.leader.outstanding 0 ≡ Some k → k.link ≡ s.world.acknowledged + 1)
      (other_named : (k : PlainFrame) → slice_get g.leader.outstanding 0 ≡ Some k → k.link ≡ s.world.acknowledged + 1)
      (lanes : (k : PlainFrame) → n ≡ s.world.acknowledged + 1 → slice_get f.leader.outstanding 0 ≡ Some k → k.lane ≡ x.lane) where
    read_one : whole l.bytes ≡ Ok one.frame
    read_one = ap whole one.spelled.bytes ∙ whole_spelled one.frame one.spelled.is_frame

    read_two : whole m.bytes ≡ Ok two.frame
    read_two = ap whole two.spelled.bytes ∙ whole_spelled two.frame two.spelled.is_frame

    mine : like.one ≡ one.frame
    mine = ok_same (sym (ap whole like.first ∙ whole_spelled like.one like.is_one) ∙ read_one)

    theirs : like.two ≡ two.frame
    theirs = ok_same (sym (ap whole like.second ∙ whole_spelled like.two like.is_two) ∙ read_two)

    same_body : shareless two.frame.body ≡ shareless one.frame.body
    same_body = ap (λ (y : PlainFrame). shareless y.body) (sym theirs) ∙ like.body ∙ ap (λ (y : PlainFrame). shareless y.body) mine

    found_one : linked is_reply f.leader.settings.width l.bytes ≡ Some one.frame
    found_one =
        linked_either f.leader.settings.width one.frame l.bytes read_one
        ∙ ap (λ t. cond t (Some one.frame) None)
        (ap (λ y. is_reply one.frame.body && has_width y.width one.frame.body) pair.follows.leader.settings ∙ foreign_read b (n - 1) x one.frame.body pair.known.sound one.body)

    found_two : linked is_reply g.leader.settings.width m.bytes ≡ Some two.frame
    found_two =
        linked_either g.leader.settings.width two.frame m.bytes read_two
        ∙ ap (λ t. cond t (Some two.frame) None)
        (ap (λ y. is_reply two.frame.body && has_width y.width two.frame.body) pair.others.leader.settings ∙ foreign_read d (n - 1) x two.frame.body pair.other_known.sound two.body)

    abbrev ack : leader.AckTurn → Heard
    ack u = heard (hidden_row (leader.row_at u.leader x.lane)) (hidden_ack u.ack)

    -- a reply to another number is ignored
    passes : (a : Leader) (y : PlainFrame) (head : Option PlainFrame) → ((k : PlainFrame) → head ≡ Some k → y.link ≡ k.link → ⊥) → ack (answers a y head) ≡ heard (hidden_row (leader.row_at a x.lane)) leader.Ignored
    unfolding answers
    passes a y None never = refl
    passes a y (Some k) never =
        let t : nat_eq y.link k.link ≡ false = ne_eqb _ _ (never k refl) in
        rw t refl

    replied : ack (answers g.leader two.frame (slice_get g.leader.outstanding 0)) ≡ ack (answers f.leader one.frame (slice_get f.leader.outstanding 0))
    replied = elim (cases_eq n (s.world.acknowledged + 1)) [
      | inl due ↦ ap (λ o. ack (answers g.leader two.frame o)) (heads due) ∙ at_head due (slice_get f.leader.outstanding 0) refl
      | inr other ↦
          passes g.leader two.frame (slice_get g.leader.outstanding 0) (λ k e link. other (sym two.link ∙ link ∙ other_named k e))
          ∙ ap (λ r. heard r leader.Ignored) (alike.leader x.lane foreign)
          ∙ sym (passes f.leader one.frame (slice_get f.leader.outstanding 0) (λ k e link. other (sym one.link ∙ link ∙ named k e)))
    ]
      where
        at_head : n ≡ s.world.acknowledged + 1 → (head : Option PlainFrame) → slice_get f.leader.outstanding 0 ≡ head
            → ack (answers g.leader two.frame head) ≡ ack (answers f.leader one.frame head)
        at_head due None e = answers_none g.leader f.leader two.frame one.frame x.lane (alike.leader x.lane foreign)
        at_head due (Some k) e =
            let lane = lanes k due e in
            let here : hidden_row (leader.row_at g.leader k.lane) ≡ hidden_row (leader.row_at f.leader k.lane) = alike.leader k.lane (ap b.foreign lane ∙ foreign) in
            let place = (pair.known.lawful.coherent.pool i (token.Replied n x) at).1.0 in
            let low = (pair.follows.leader.foreign.there place.place x place.is foreign).0 in
            let count = pair.follows.leader.count in
            let more = pair.others.leader.count in
            let step = answers_alike f.leader g.leader.boxes g.leader.rows g.leader.outstanding k (leader_boxes b sent commands entries brought v z history s t pair alike) (omega (arith, lane, low, count)) (omega (arith, lane, low, more)) here
            two.frame one.frame (two.link ∙ sym one.link) (two.lane ∙ sym one.lane) (two.serial ∙ sym one.serial) same_body in
            subst (λ c. heard (hidden_row (leader.row_at (answers g.leader two.frame (Some k)).leader c)) (hidden_ack (answers g.leader two.frame (Some k)).ack)
            ≡ heard (hidden_row (leader.row_at (answers f.leader one.frame (Some k)).leader c)) (hidden_ack (answers f.leader one.frame (Some k)).ack)) lane
            (ap (λ a. heard (hidden_row (leader.row_at (answers a two.frame (Some k)).leader k.lane)) (hidden_ack (answers a two.frame (Some k)).ack)) (sym (leader_is b sent commands entries brought v z history s t pair alike)) ∙ step)

    pub replies_heard : ack (on_reply_bytes g.leader m.bytes) ≡ ack (on_reply_bytes f.leader l.bytes)
    unfolding if_reply
    replies_heard = ap (λ o. ack (if_reply g.leader o)) found_two ∙ replied ∙ sym (ap (λ o. ack (if_reply f.leader o)) found_one)

    act_of_heard : Heard → Act
    act_of_heard y = record no_act { row = leader_rows.bare y.row; fits = fits_of y.ack; settles = settles_of y.ack }

    heard_is : (a : Leader) (bytes : List ℕ) → (let u = on_reply_bytes a bytes in let act : Act = record no_act { row = leader_rows.bare (leader.row_at u.leader x.lane); fits = fits_of u.ack; settles = settles_of u.ack } in act) ≡ act_of_heard (ack (on_reply_bytes a bytes))
    unfolding act_of_heard
    heard_is a bytes =
        let u = on_reply_bytes a bytes in
        ap (λ r. record no_act { row = r; fits = fits_of u.ack; settles = settles_of u.ack }) (sym (bare_hidden (leader.row_at u.leader x.lane)))
        ∙ ap (λ y. record no_act { row = leader_rows.bare (hidden_row (leader.row_at u.leader x.lane)); fits = y; settles = settles_of u.ack }) (sym (fits_hidden u.ack))
        ∙ ap (λ y. record no_act { row = leader_rows.bare (hidden_row (leader.row_at u.leader x.lane)); fits = fits_of (hidden_ack u.ack); settles = y }) (sym (settles_hidden u.ack))

    pub reply_acts : reply_act g x.lane m.bytes ≡ reply_act f x.lane l.bytes
    reply_acts = heard_is g.leader m.bytes ∙ ap act_of_heard replies_heard ∙ sym (heard_is f.leader l.bytes)

    pub reply_rows : (other : ℕ) → b.foreign other ≡ true
        → hidden_row (leader.row_at (on_reply_bytes g.leader m.bytes).leader other) ≡ hidden_row (leader.row_at (on_reply_bytes f.leader l.bytes).leader other)
    reply_rows other is = elim (cases_eq x.lane other) [
      | inl same ↦ subst (λ c. hidden_row (leader.row_at (on_reply_bytes g.leader m.bytes).leader c) ≡ hidden_row (leader.row_at (on_reply_bytes f.leader l.bytes).leader c)) same (ap (λ (y : Heard). y.row) replies_heard)
      | inr never ↦
          ap (λ r. hidden_row r) (leader_link_rows g.leader m.bytes other (λ y e lane. never (sym two.lane ∙ ap (λ (y : PlainFrame). y.lane) (some_same (sym found_two ∙ e)) ∙ lane)))
          ∙ alike.leader other is
          ∙ sym (ap (λ r. hidden_row r) (leader_link_rows f.leader l.bytes other (λ y e lane. never (sym one.lane ∙ ap (λ (y : PlainFrame). y.lane) (some_same (sym found_one ∙ e)) ∙ lane))))
    ]
