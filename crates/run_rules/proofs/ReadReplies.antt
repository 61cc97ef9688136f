-- The reply to the command of a read or retire comes to the leader, in both runs.
use Rattle.std.proofs.Common.{◌≡◌, ◌∙◌, ◌<◌, ◌≤◌, ◌^◌, ◌-◌, ℕ, cond, true, false, Bool, List, length, map, take, Option, Some, None, slice_get, refl, sym, ap, ap₂, subst, arith}
use Rattle.std.proofs.lemmas.Bool.{eq-eqb}
use Rattle.std.proofs.lemmas.Option.{slice_get_within}
use Rattle.express_words.specs.declared.refusal.Refusal.TheVariants as refusal
use Rattle.frame_rules.specs.Frames as frame
use Rattle.frame_rules.specs.Frames.{PlainFrame, PlainBody}
use Rattle.frame_rules.specs.Spelling.{IsFrame}
use Rattle.frame_rules.specs.Whole.{has_width, is_reply}
use Rattle.lane_table.specs.declared.row.Want.TheVariants as want
use Rattle.express_words.specs.Bytes.{xor_bytes}
use Rattle.dpf_rules.specs.Expansion.{mask}
use Rattle.mailbox_rules.specs.Requests.{Reads, Retires, Entry, entry, lines_of, Refuse, reads_box, retires_box, operation_of}
use Rattle.mailbox_rules.specs.Tables as tables
use Rattle.mailbox_rules.specs.Tables.{Mailbox, Result, Gave, NoBox, bare, boxes_cleared, given, no_writes}
use Rattle.mailbox_rules.proofs.Owners.{own_boxes_stand}
use Rattle.token_rules.specs.Tokens as token
use Rattle.token_rules.specs.Tokens.{World, Lane, Oracle}
use Rattle.token_rules.specs.Run.{comes, line_of, reply_applied}
use Rattle.token_rules.specs.Laws as laws
use Rattle.token_rules.specs.Stages.{Stage, Opened, Fits}
use Rattle.token_rules.specs.Invariant.{Coherent}
use Rattle.token_rules.proofs.Cases.{acks, acks_is, answers}
use Rattle.token_rules.proofs.Lists.{get_taken, same_at, taken_get}
use Rattle.step_rules.specs.Boxes.{Box, with_read}
use Rattle.step_rules.specs.Leader as leader
use Rattle.step_rules.specs.Leader.{Leader, AckTurn, row_at}
use Rattle.step_rules.specs.LeaderReplies as steps
use Rattle.run_rules.specs.Letters.{ToLeaderLink, FrameWorld}
use Rattle.run_rules.specs.Run as frames
use Rattle.run_rules.specs.Book.{Book, box_of, owned_box, place, request_of, table_at, wants}
use Rattle.run_rules.specs.Values.{box_at, boxes_at, key_at, shares_at}
use Rattle.run_rules.specs.Frames.{answer_at, answer_with, frame_of, frame_with, last_at, last_in, reply_body, reply_with, result_at}
use Rattle.run_rules.specs.Follows.{Spelled, IsFrameOf, Follows, LeaderRow, Sound}
use Rattle.run_rules.specs.Known.{Known}
use Rattle.run_rules.specs.Laws.{ComesFollows}
use Rattle.run_rules.proofs.HelperOrders.{asked_was_sent}
use Rattle.run_rules.proofs.HelperRegistered.{linked_spelled}
use Rattle.run_rules.proofs.HelperRegisters.{shares_few, shares_next}
use Rattle.run_rules.proofs.LeaderClients.{row_of}
use Rattle.run_rules.proofs.LeaderRegistered.{entry_of}
use Rattle.run_rules.proofs.LeaderReplies.{applied, applied_follows, reply_follows}
use Rattle.run_rules.proofs.Places.{place_is}
use Rattle.run_rules.proofs.Effects.{read_effect}
use Rattle.run_rules.proofs.Widths.{share_width}
use Rattle.run_rules.proofs.ReadBoxes.{later_got, own_keys, share_box, table_in, table_now}
use Rattle.run_rules.proofs.ReadBasics.{asks, command_for, current_box, does_for, link_for}
use Rattle.run_rules.proofs.ReadCommands.{after_read, command_frame, dead_same, journal_count, line, masked_length, result_is}

-- ---- what the read was of

pub record WasRead (b : Book) (stays : Bool) (c s own i : ℕ) : Type 0 where
  pub number : ℕ
  pub got : slice_get ((table_at b i).got c) own ≡ Some number
  pub is : slice_get b.entries i ≡ Some (entry (line stays c s) (does_for stays number))

pub was_read : (b : Book) (v w : World) (stays : Bool) (c s own i : ℕ) → Known b v w → w.foreign c ≡ false
    → request_of b c s ≡ Some (asks stays own) → slice_get w.commands i ≡ Some (line stays c s) → i < w.carried
    → WasRead b stays c s own i
was_read b v w stays c s own i known hon q there low =
    let ok = known.lawful.coherent in
    let count = journal_count w known.lawful.stages ok in
    let at : slice_get (lines_of w.journal) i ≡ Some (line_of c s (command_for stays)) = rw ok.journal (taken_get w.commands w.carried i (line_of c s (command_for stays)) low there) in
    let e = entry_of w.journal i (line_of c s (command_for stays)) at in
    let hon_e : w.foreign e.0.line.lane ≡ false = ap (λ x. w.foreign x.lane) e.1.1 ∙ hon in
    let asked = known.lawful.operations i e.0 e.1.0 hon_e in
    let sent : request_of b e.0.line.lane e.0.line.serial ≡ Some asked.sent.request = asked_was_sent b w e.0.line.lane e.0.line.serial asked.sent.request (known.within.sent e.0.line.lane) asked.sent.is in
    let both : Some asked.sent.request ≡ Some (asks stays own) = sym sent ∙ ap (λ x. request_of b x.lane x.serial) e.1.1 ∙ q in
    let table = table_in b v w i known (omega (arith, low, count)) in
    let does : e.0.does ≡ operation_of ((table_at b i).got c) (command_for stays) (Some (asks stays own)) =
    asked.does ∙ ap (λ x. operation_of ((laws_table w i).got x.lane) x.command (Some asked.sent.request)) e.1.1 ∙ ap (operation_of ((laws_table w i).got c) (command_for stays)) both ∙ ap (λ t. operation_of (t.got c) (command_for stays) (Some (asks stays own))) table in
    let in_history : slice_get b.entries i ≡ Some e.0 = (get_taken b.entries (length w.journal) i e.0 (ap (λ es. slice_get es i) (sym known.within.journal) ∙ e.1.0)).1 in
    by_kind stays (slice_get ((table_at b i).got c) own) refl e.0 e.1.1 does asked.done in_history
  where
    laws_table : World → ℕ → tables.Table
    laws_table w i = laws.table_at w i

    by_kind : (t : Bool) (found : Option ℕ) → slice_get ((table_at b i).got c) own ≡ found → (e : Entry) → e.line ≡ line_of c s (command_for t)
        → e.does ≡ operation_of ((table_at b i).got c) (command_for t) (Some (asks t own)) → (e.does ≡ Refuse → ⊥) → slice_get b.entries i ≡ Some e → WasRead b t c s own i
    by_kind true (Some n) f e same does done there = record { number = n; got = f; is = there ∙ ap₂ (λ x d. Some (entry x d)) same (does ∙ ap reads_box f) }
    by_kind false (Some n) f e same does done there = record { number = n; got = f; is = there ∙ ap₂ (λ x d. Some (entry x d)) same (does ∙ ap retires_box f) }
    by_kind true None f e same does done there = absurd (done (does ∙ ap reads_box f))
    by_kind false None f e same does done there = absurd (done (does ∙ ap retires_box f))

-- ---- both servers' boxes of that number

pub record TwoBoxes (b : Book) (c i n : ℕ) : Type 0 where
  pub zero : Mailbox
  pub one : Mailbox
  pub zero_is : slice_get (shares_at b 0 i).boxes n ≡ Some zero
  pub one_is : slice_get (shares_at b 1 i).boxes n ≡ Some one
  pub held : slice_get (boxes_at b 0 i) n ≡ Some (box_at b 0 zero)
  pub live : zero.live ≡ one.live
  pub key0 : (owned_box b c n).key0 ≡ key_at b 0 zero.lane zero.serial
  pub key1 : (owned_box b c n).key1 ≡ key_at b 1 one.lane one.serial
  pub small : n < 2 ^ 32

pub two_boxes : (b : Book) (c i n own : ℕ) → Sound b → b.foreign c ≡ false → slice_get ((table_at b i).got c) own ≡ Some n → TwoBoxes b c i n
two_boxes b c i n own sound hon got =
    let stand = own_boxes_stand b.settings.boxes b.settings.width no_writes (take i b.entries) c own n got in
    let x = share_box b 0 i n stand.box stand.is in
    let y = share_box b 1 i n stand.box stand.is in
    let within = slice_get_within (shares_at b 1 i).boxes n y.box y.is in
    let few = shares_few b 1 i in
    let limit = sound.limits.1.1 in
    let keys = own_keys b c i n stand.box hon stand.is stand.owner in
    record {
      zero = x.box;
      one = y.box;
      zero_is = x.is;
      one_is = y.is;
      held = x.held;
      live = ap (λ m. m.live) (x.bare_is ∙ sym y.bare_is);
      key0 = keys.zero ∙ sym (ap (λ m. key_at b 0 m.lane m.serial) x.bare_is);
      key1 = keys.one ∙ sym (ap (λ m. key_at b 1 m.lane m.serial) y.bare_is);
      small = omega (arith, within, few, limit);
    }

-- ---- the reply is applied as the table tells

pub record AppliedTo (b : Book) (a : Leader) (stays : Bool) (c s k i n : ℕ) (zero one : Result) : Type 0 where
  pub boxes : List Box
  pub kept : PlainBody
  pub is : steps.if_fits a (steps.fits a (frame_with c s k (link_for stays n)) (reply_with b i (line stays c s) one) (steps.refusal_in (reply_with b i (line stays c s) one)))
      ≡ applied a c (leader.row s (leader.Done want.Read kept)) boxes kept s
  pub boxes_is : boxes ≡ map (λ m. box_at b 0 m) (boxes_cleared b.settings.width stays (shares_at b 0 i).boxes n)
  pub kept_is : answer_with b i (line stays c s) zero one ≡ kept
  pub frame : IsFrame (frame_with c s 0 kept)

module _ (b : Book) (a : Leader) (stays : Bool) (c s k i n : ℕ) (sound : Sound b) (two : TwoBoxes b c i n)
    (boxes_is : a.boxes ≡ boxes_at b 0 i) (width : a.settings.width ≡ b.settings.width)
    (lane : c < 2 ^ 16) (serial : s < 2 ^ 32) (first : 1 ≤ s) where
  abbrev g : PlainFrame
  g = frame_with c s k (link_for stays n)

  abbrev masked0 : List ℕ
  masked0 = xor_bytes two.zero.bytes (mask (key_at b 0 two.zero.lane two.zero.serial) c s b.settings.width)

  abbrev masked1 : List ℕ
  masked1 = xor_bytes two.one.bytes (mask (key_at b 1 two.one.lane two.one.serial) c s b.settings.width)

  reply_is : reply_with b i (line stays c s) (Gave n two.one.bytes) ≡ frame.LinkReply (frame.ReplyMasked masked1)
  unfolding reply_with
  reply_is = let e = two.one_is in rw e refl

  answer_is : answer_with b i (line stays c s) (Gave n two.zero.bytes) (Gave n two.one.bytes) ≡ frame.Message masked0 masked1
  unfolding answer_with
  answer_is = let e = two.zero_is in let d = two.one_is in rw (e, d) refl

  read_is : (t : Bool) → steps.by_command a (frame_with c s k (link_for t n)) (link_for t n) (row_at a c).stage (frame.LinkReply (frame.ReplyMasked masked1))
      ≡ steps.read a (frame_with c s k (link_for t n)) t n (slice_get a.boxes n) masked1
  unfolding steps.by_command
  read_is true = refl
  read_is false = refl

  live_is : steps.if_fits a (steps.fits a g (frame.LinkReply (frame.ReplyMasked masked1)) None)
      ≡ applied a c (leader.row s (leader.Done want.Read (frame.Message masked0 masked1))) (with_read b.settings.width stays n (box_at b 0 two.zero) a.boxes) (frame.Message masked0 masked1) s
  unfolding steps.fits steps.read
  live_is = ap (steps.if_fits a) (read_is stays ∙ ap (λ found. steps.read a g stays n found masked1) (ap (λ bs. slice_get bs n) boxes_is ∙ two.held)) ∙ by_width width
    where
      by_width : {x : ℕ} → x ≡ b.settings.width → applied a c (leader.row s (leader.Done want.Read (frame.Message (xor_bytes two.zero.bytes (mask (key_at b 0 two.zero.lane two.zero.serial) c s x)) masked1))) (with_read x stays n (box_at b 0 two.zero) a.boxes) (frame.Message (xor_bytes two.zero.bytes (mask (key_at b 0 two.zero.lane two.zero.serial) c s x)) masked1) s
          ≡ applied a c (leader.row s (leader.Done want.Read (frame.Message masked0 masked1))) (with_read b.settings.width stays n (box_at b 0 two.zero) a.boxes) (frame.Message masked0 masked1) s
      by_width e = ap (λ x. applied a c (leader.row s (leader.Done want.Read (frame.Message (xor_bytes two.zero.bytes (mask (key_at b 0 two.zero.lane two.zero.serial) c s x)) masked1))) (with_read x stays n (box_at b 0 two.zero) a.boxes) (frame.Message (xor_bytes two.zero.bytes (mask (key_at b 0 two.zero.lane two.zero.serial) c s x)) masked1) s) e

  live_made : two.zero.live ≡ true → AppliedTo b a stays c s k i n (Gave n two.zero.bytes) (Gave n two.one.bytes)
  live_made live =
      let wide0 = masked_length two.zero.bytes (key_at b 0 two.zero.lane two.zero.serial) c s b.settings.width (share_width b 0 i n two.zero sound two.zero_is) in
      let wide1 = masked_length two.one.bytes (key_at b 1 two.one.lane two.one.serial) c s b.settings.width (share_width b 1 i n two.one sound two.one_is) in
      record {
        boxes = with_read b.settings.width stays n (box_at b 0 two.zero) a.boxes;
        kept = frame.Message masked0 masked1;
        is = rw reply_is live_is;
        boxes_is = rw boxes_is (read_effect b 0 b.settings.width stays n two.zero (shares_at b 0 i).boxes two.zero_is live);
        kept_is = answer_is;
        frame = record { lane = lane; serial = serial; addressed = first; link = omega arith; linked = refl; body = (wide0 ∙ sym wide1, rw wide0 (sound.limits.0)) };
      }

  refused_is : (t : Bool) → steps.done a (frame_with c s k (link_for t n)) (steps.want_for (link_for t n)) (frame.Refused (refusal.NoBox n))
      ≡ applied a c (leader.row s (leader.Done want.Read (frame.Refused (refusal.NoBox n)))) a.boxes (frame.Refused (refusal.NoBox n)) s
  refused_is true = refl
  refused_is false = refl

  dead_made : two.zero.live ≡ false → AppliedTo b a stays c s k i n (NoBox n) (NoBox n)
  unfolding reply_with answer_with steps.fits
  dead_made dead = record {
    boxes = a.boxes;
    kept = frame.Refused (refusal.NoBox n);
    is = refused_is stays;
    boxes_is = boxes_is ∙ ap (map (λ m. box_at b 0 m)) (sym (dead_same b.settings.width stays (shares_at b 0 i).boxes n two.zero two.zero_is dead));
    kept_is = refl;
    frame = record { lane = lane; serial = serial; addressed = first; link = omega arith; linked = refl; body = two.small };
  }

  pub reply_made : AppliedTo b a stays c s k i n (given n (Some two.zero)) (given n (Some two.one))
  reply_made = at_life two.zero.live two.one.live refl two.live
    where
      at_life : (x y : Bool) → two.zero.live ≡ x → x ≡ y → AppliedTo b a stays c s k i n (cond x (Gave n two.zero.bytes) (NoBox n)) (cond y (Gave n two.one.bytes) (NoBox n))
      at_life true true e same = live_made e
      at_life false false e same = dead_made e
      at_life true false e same = absurd (cc same)
      at_life false true e same = absurd (cc same)

-- ---- the reply's bytes are a reply's

pub reply_fits : (b : Book) (stays : Bool) (i c s n : ℕ) (sound : Sound b) (two : TwoBoxes b c i n)
    → (is_reply (reply_with b i (line stays c s) (given n (Some two.one))) ≡ true) × (has_width b.settings.width (reply_with b i (line stays c s) (given n (Some two.one))) ≡ true)
unfolding reply_with
reply_fits b stays i c s n sound two = by_life two.one.live
  where
    by_life : (t : Bool) → (is_reply (reply_with b i (line stays c s) (cond t (Gave n two.one.bytes) (NoBox n))) ≡ true) × (has_width b.settings.width (reply_with b i (line stays c s) (cond t (Gave n two.one.bytes) (NoBox n))) ≡ true)
    by_life true =
        let e = two.one_is in
        let wide = masked_length two.one.bytes (key_at b 1 two.one.lane two.one.serial) c s b.settings.width (share_width b 1 i n two.one sound two.one_is) in
        rw e (refl, eq-eqb _ _ wide)
    by_life false = (refl, refl)

-- ---- the row waits for it

pub record Waits (w : World) (c s : ℕ) : Type 0 where
  pub serial : (w.lanes c).serial ≡ s
  pub step : 0 < (w.lanes c).step
  pub row_serial : (w.lanes c).leader.serial ≡ s
  pub first : 1 ≤ s

waits_at : (w : World) (p : ℕ → Stage) (stays : Bool) (c s : ℕ) → Coherent w p → w.foreign c ≡ false
    → slice_get w.commands w.acknowledged ≡ Some (line stays c s) → w.acknowledged < w.carried → (p c ≡ Opened) × ((w.lanes c).serial ≡ s)
waits_at w p true c s ok hon e low = let now = (ok.lines w.acknowledged _ e hon).held (omega arith) low in (now.stage, now.serial)
waits_at w p false c s ok hon e low = let now = (ok.lines w.acknowledged _ e hon).held (omega arith) low in (now.stage, now.serial)

waits_for : (w : World) (p : ℕ → Stage) (stays : Bool) (c s : ℕ) → Coherent w p → w.foreign c ≡ false
    → slice_get w.commands w.acknowledged ≡ Some (line stays c s) → w.acknowledged < w.carried → Waits w c s
waits_for w p stays c s ok hon e low =
    let at = waits_at w p stays c s ok hon e low in
    let fits : Fits (w.lanes c) Opened = subst (Fits (w.lanes c)) at.0 (ok.fits c hon) in
    let same = at.1 in
    let step = fits.step in
    let first = fits.numbered in
    record { serial = same; step = omega (arith, step); row_serial = fits.leader_serial ∙ same; first = omega (arith, same, first) }

-- ---- the reply comes

row_done : (b : Book) (stays : Bool) (c s own : ℕ) (kept : PlainBody) → s < 2 ^ 32 → request_of b c s ≡ Some (asks stays own)
    → kept ≡ answer_at b c s → IsFrame (frame_with c s 0 kept)
    → LeaderRow b c (leader.row s (leader.Done want.Read kept)) (token.row s token.Done)
row_done b true c s own kept small q e fr = record { bare = refl; small = small; want = λ pos. sym (ap wants q); holds = (e, fr) }
row_done b false c s own kept small q e fr = record { bare = refl; small = small; want = λ pos. sym (ap wants q); holds = (e, fr) }

pub last_is : (b : Book) (stays : Bool) (c s own : ℕ) → request_of b c s ≡ Some (asks stays own) → last_at b c s ≡ command_for stays
last_is b true c s own q = ap last_in q
last_is b false c s own q = ap last_in q

pub answer_of : (b : Book) (stays : Bool) (c s own i : ℕ) (zero one : Result) → request_of b c s ≡ Some (asks stays own)
    → place b c s (command_for stays) ≡ i → result_at b 0 i (line stays c s) ≡ zero → result_at b 1 i (line stays c s) ≡ one
    → answer_at b c s ≡ answer_with b i (line stays c s) zero one
unfolding answer_at
answer_of b stays c s own i first second q at x y =
    let last = last_is b stays c s own q in
    rw (last, at, x, y) refl

applied_is : (o : Oracle) (w : World) (stays : Bool) (c s : ℕ) → w.foreign c ≡ false
    → reply_applied o w (line stays c s) ≡ answers w c s token.Done
unfolding reply_applied acks
applied_is o w true c s hon = rw hon (acks_is w c s Reads)
applied_is o w false c s hon = rw hon (acks_is w c s Retires)

module _ (b : Book) (o : Oracle) (f : FrameWorld) (v w : World) (stays : Bool) (c s own : ℕ) (known : Known b v w) (h : Follows b f w) (hon : b.foreign c ≡ false) (low : c < b.settings.lanes)
    (q : request_of b c s ≡ Some (asks stays own)) (there : slice_get w.commands w.acknowledged ≡ Some (line stays c s)) (carried : w.acknowledged < w.carried) where
  honest : w.foreign c ≡ false
  honest = ap (λ foreign. foreign c) h.foreign ∙ hon

  pub applied_read : (k : ℕ)
      → Follows b (frames.to_leader_link f (steps.if_fits f.leader (steps.fits f.leader (frame_with c s k (link_for stays (box_of b c s))) (reply_body b w.acknowledged (line stays c s)) (steps.refusal_in (reply_body b w.acknowledged (line stays c s)))))) (reply_applied o w (line stays c s))
  unfolding frame_of
  applied_read k =
      let ok = known.lawful.coherent in
      let la = h.leader in
      let i = w.acknowledged in
      let was = was_read b v w stays c s own i known honest q there carried in
      let n = was.number in
      let two = two_boxes b c i n own known.sound hon was.got in
      let waits = waits_for w known.lawful.stages stays c s ok honest there carried in
      let now = current_box b v w stays c s own known honest waits.step waits.serial q in
      let count = journal_count w known.lawful.stages ok in
      let later : slice_get (w.table.got c) own ≡ Some n = ap (λ t. slice_get (t.got c) own) (table_now b v w known) ∙ later_got b i (length w.journal) c own n (omega (arith, carried, count)) was.got in
      let same : box_of b c s ≡ n = now.holds.named ∙ same_at (w.table.got c) own now.number n now.got later in
      let limits = known.sound.limits in
      let lanes : b.settings.lanes ≤ 256 = limits.2.1 in
      let hr = row_of b f w c h hon low in
      let small = hr.small in
      let serial : (row_at f.leader c).serial ≡ s = ap (λ x. x.serial) hr.bare ∙ waits.row_serial in
      let made = reply_made b f.leader stays c s k i n known.sound two la.boxes (ap (λ x. x.width) la.settings) (omega (arith, low, lanes)) (omega (arith, small, serial)) waits.first in
      let zero = result_is b 0 i stays c s own n q was.got ∙ ap (given n) two.zero_is in
      let one = result_is b 1 i stays c s own n q was.got ∙ ap (given n) two.one_is in
      let body : reply_body b i (line stays c s) ≡ reply_with b i (line stays c s) (given n (Some two.one)) = ap (reply_with b i (line stays c s)) one in
      let at = place_is b w known.lawful.stages c s i (command_for stays) ok known.within honest there in
      let answer : made.kept ≡ answer_at b c s = sym made.kept_is ∙ sym (answer_of b stays c s own i (given n (Some two.zero)) (given n (Some two.one)) q at zero one) in
      rw (same, body, made.is, applied_is o w stays c s honest)
      (applied_follows b f w c s token.Done (token.Answer c s) (leader.row s (leader.Done want.Read made.kept)) made.boxes made.kept h hon low refl
      (row_done b stays c s own made.kept (omega (arith, small, serial)) q answer made.frame)
      tt
      (record { entry = entry (line stays c s) (does_for stays n); is = was.is; lane = refl })
      (made.boxes_is ∙ ap (map (λ m. box_at b 0 m)) (sym (after_read b 0 stays c s n (shares_at b 0 i)) ∙ ap (λ u. u.boxes) (sym (shares_next b 0 i (entry (line stays c s) (does_for stays n)) was.is))))
      (record { lane = low; frame = frame_with c s 0 made.kept; is = ap (λ x. Some (frame_with c s 0 x)) (sym answer); spelled = record { at = refl; bytes = refl; is_frame = made.frame } }))

reply_frame : (b : Book) (stays : Bool) (c s k : ℕ) (g : PlainFrame) → frame_of b (token.Replied k (line stays c s)) ≡ Some g
    → g ≡ frame_with c s k (reply_body b (k - 1) (line stays c s))
unfolding frame_of
reply_frame b stays c s k g e = cc

pub read_replied : (b : Book) (stays : Bool) (c s own k : ℕ) → b.foreign c ≡ false → request_of b c s ≡ Some (asks stays own)
    → ComesFollows b (token.Replied k (line stays c s))
unfolding comes frames.comes
read_replied b stays c s own k hon q o f v w i l known after e h letter_is =
    let ok = known.lawful.coherent in
    let one : IsFrameOf b l ToLeaderLink c (token.Replied k (line stays c s)) = rw hon at letter_is in
    let is = reply_frame b stays c s k one.frame one.is in
    let spelled = subst (Spelled l ToLeaderLink) is one.spelled in
    let g = frame_with c s k (reply_body b (k - 1) (line stays c s)) in
    let claim = ok.pool i (token.Replied k (line stays c s)) e in
    let number = claim.1.0 in
    let next = number.next in
    let low = claim.1.1 in
    let honest : w.foreign c ≡ false = ap (λ foreign. foreign c) h.foreign ∙ hon in
    let place : number.place ≡ k - 1 = omega (arith, next) in
    let issued : slice_get w.commands (k - 1) ≡ Some (line stays c s) = subst (λ i. slice_get w.commands i ≡ Some (line stays c s)) place number.is in
    let was = was_read b v w stays c s own (k - 1) known honest q issued (omega (arith, low, next)) in
    let two = two_boxes b c (k - 1) was.number own known.sound hon was.got in
    let result = result_is b 1 (k - 1) stays c s own was.number q was.got ∙ ap (given was.number) two.one_is in
    let fits = reply_fits b stays (k - 1) c s was.number known.sound two in
    let width = f.leader.settings.width in
    let same : width ≡ b.settings.width = ap (λ x. x.width) h.leader.settings in
    let read = linked_spelled is_reply width g spelled.is_frame (ap (λ r. is_reply (reply_with b (k - 1) (line stays c s) r)) result ∙ fits.0)
    (ap (λ x. has_width x (reply_body b (k - 1) (line stays c s))) same ∙ ap (λ r. has_width b.settings.width (reply_with b (k - 1) (line stays c s) r)) result ∙ fits.1) in
    rw (spelled.at, spelled.bytes, read)
    (reply_follows b o f w known.lawful.stages k (line stays c s) g h number hon refl refl refl (λ x of e.
    let command = command_frame b stays c s k x (rw hon at of) in
    let there : slice_get w.commands w.acknowledged ≡ Some (line stays c s) = subst (λ i. slice_get w.commands i ≡ Some (line stays c s)) (omega (arith, e, next)) number.is in
    let at : k - 1 ≡ w.acknowledged = omega (arith, e) in
    rw (command, at) (applied_read b o f v w stays c s own known h hon one.lane q there (omega (arith, e, low)) k)))
