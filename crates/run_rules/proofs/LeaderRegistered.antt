-- The reply to the command of a register at the leader, in both runs.
use Rattle.std.proofs.Common.{◌≡◌, ℕ, zero, suc, ◌<◌, ◌≤◌, ◌^◌, ◌-◌, cond, nat_eq, nat_le, true, false, List, [], ◌∷◌, ◌++◌, length, take, map, position, Option, Some, None, slice_get, refl, sym, ap, ◌∙◌, subst, arith, Bool}
use Rattle.std.proofs.lemmas.Bool.{eq-eqb, leb-true, leb-false, false_from_ne_true}
use Rattle.std.proofs.lemmas.List.{length-map}
use Rattle.std.proofs.lemmas.List.Quantifiers.{position-Some}
use Rattle.express_words.specs.declared.refusal.Refusal.TheVariants as refusal
use Rattle.frame_rules.specs.Frames as frame
use Rattle.frame_rules.specs.Frames.{PlainFrame, PlainBody}
use Rattle.frame_rules.specs.Spelling.{IsFrame}
use Rattle.mailbox_rules.specs.Requests.{Register, Registers, Line, Entry, entry, lines_of, AddBox, request_at}
use Rattle.mailbox_rules.specs.Tables as tables
use Rattle.mailbox_rules.specs.Tables.{Mailbox, Table, Result, after_register, register_result, result_of, box_of, addresses, bare, outline, after_line}
use Rattle.mailbox_rules.proofs.Outlines.{outlines_agree}
use Rattle.token_rules.specs.Tokens as token
use Rattle.token_rules.specs.Tokens.{Token, World, Lane, put, Oracle}
use Rattle.token_rules.specs.Run.{reply_applied, comes, sent_of}
use Rattle.token_rules.specs.Stages.{Stage, Opened, Fits}
use Rattle.token_rules.specs.Invariant.{Coherent, Claims, state}
use Rattle.token_rules.proofs.Cases.{acks, acks_is, answers}
use Rattle.token_rules.proofs.Lists.{taken_get, get_taken}
use Rattle.frame_rules.specs.Whole.{is_reply, has_width}
use Rattle.lane_table.specs.declared.row.Want.TheVariants as want
use Rattle.step_rules.specs.Boxes.{Box, place_of, with_new}
use Rattle.step_rules.specs.Leader as leader
use Rattle.step_rules.specs.Leader.{Leader, Row, Asked, Registering, Writing, Reading, Retiring, row_at, AckTurn}
use Rattle.step_rules.specs.LeaderReplies as steps
use Rattle.step_tokens.specs.LeaderRows.{bare_phase}
use Rattle.run_rules.specs.Letters.{Letter, ToLeaderLink, FrameWorld}
use Rattle.run_rules.specs.Run as frames
use Rattle.run_rules.specs.Book.{Book, request_of, wants, place}
use Rattle.run_rules.specs.Values.{key_at, box_at, shares_at, writes_at}
use Rattle.run_rules.specs.Frames.{frame_with, frame_of, command_body, reply_with, reply_body, result_at, answer_with, answer_at}
use Rattle.run_rules.specs.Follows.{Spelled, IsFrameOf, Carries, LeaderHolds, AskedIs, LeaderRow, Within, Sound, Follows}
use Rattle.run_rules.proofs.Contents.{register_body, key_of}
use Rattle.run_rules.proofs.Places.{place_is}
use Rattle.run_rules.proofs.LeaderClients.{row_of}
use Rattle.run_rules.proofs.HelperRegisters.{line, map_more, place_same, shares_next, shares_few}
use Rattle.run_rules.proofs.HelperRegistered.{linked_spelled, result_is}
use Rattle.run_rules.proofs.HelperOrders.{asked_was_sent}
use Rattle.run_rules.proofs.LeaderReplies.{applied, applied_follows, reply_follows}

-- ---- both servers' tables have the same addresses

pub bare_addresses : (ms : List Mailbox) → addresses (map (λ box. bare box) ms) ≡ addresses ms
bare_addresses [] = refl
bare_addresses (m ∷ ms) = ap (λ xs. m.address ∷ xs) (bare_addresses ms)

pub same_addresses : (b : Book) (i : ℕ) → addresses (shares_at b 0 i).boxes ≡ addresses (shares_at b 1 i).boxes
unfolding shares_at
same_addresses b i =
    sym (bare_addresses (shares_at b 0 i).boxes)
    ∙ ap (λ t. addresses t.boxes) (outlines_agree b.settings.boxes b.settings.width b.settings.width (writes_at b 1) (writes_at b 0) (take i b.entries))
    ∙ bare_addresses (shares_at b 1 i).boxes

pub same_length : (b : Book) (i : ℕ) → length (shares_at b 0 i).boxes ≡ length (shares_at b 1 i).boxes
same_length b i =
    sym (length-map (shares_at b 0 i).boxes (λ m. m.address)) ∙ ap length (same_addresses b i) ∙ length-map (shares_at b 1 i).boxes (λ m. m.address)

pub same_box : (b : Book) (i address : ℕ)
    → box_of address (shares_at b 0 i).boxes ≡ box_of address (shares_at b 1 i).boxes
same_box b i address = ap (λ xs. position (λ other. nat_eq other address) xs) (same_addresses b i)

-- ---- the row waits for it

pub record Waits (w : World) (c s : ℕ) : Type 0 where
  pub row_serial : (w.lanes c).leader.serial ≡ s
  pub row_phase : (w.lanes c).leader.phase ≡ token.Waiting
  pub first : 1 ≤ s

waits_for : (w : World) (p : ℕ → Stage) (c s : ℕ) → Coherent w p → w.foreign c ≡ false
    → slice_get w.commands w.acknowledged ≡ Some (line c s) → w.acknowledged < w.carried → Waits w c s
waits_for w p c s ok hon e low =
    let now = (ok.lines w.acknowledged (line c s) e hon).held (omega arith) low in
    let fits : Fits (w.lanes c) Opened = subst (Fits (w.lanes c)) now.stage (ok.fits c hon) in
    record { row_serial = fits.leader_serial ∙ now.serial; row_phase = fits.leader_phase; first = let same = now.serial in let first = fits.numbered in omega (arith, same, first) }

pub record WaitsWith (r : Row) (s address : ℕ) (key : List ℕ) : Type 0 where
  pub serial : r.serial ≡ s
  pub number : ℕ
  pub stage : r.stage ≡ leader.Waiting number (Registering address key)

stage_waits : (b : Book) (c s address : ℕ) (r : Row) (x : token.Row) → LeaderRow b c r x → x.serial ≡ s
    → x.phase ≡ token.Waiting → request_of b c s ≡ Some (Register address)
    → WaitsWith r s address (key_of b c s)
stage_waits b c s address r x h serial phase q =
    let same : r.serial ≡ s = ap (λ y. y.serial) h.bare ∙ serial in
    let a = at_stage r.stage (subst (λ n. LeaderHolds b c n r.stage) same h.holds) (ap (λ y. y.phase) h.bare ∙ phase) in
    record { serial = same; number = a.0; stage = a.1 }
  where
    at_asked : (asked : Asked) → AskedIs b c s asked → asked ≡ Registering address (key_of b c s)
    at_asked (Registering a k) e = let same = register_body b c s address _ q e in cc
    at_asked (Writing root part draw) e = let same = register_body b c s address _ q e.0 in absurd (cc)
    at_asked (Reading n) e = let same = register_body b c s address _ q e.1 in absurd (cc)
    at_asked (Retiring n) e = let same = register_body b c s address _ q e.1 in absurd (cc)

    at_stage : (stage : leader.Stage) → LeaderHolds b c s stage → bare_phase stage ≡ token.Waiting
        → (number : ℕ) × (stage ≡ leader.Waiting number (Registering address (key_of b c s)))
    at_stage (leader.Waiting number asked) k e = (number, ap (leader.Waiting number) (at_asked asked k))
    at_stage leader.Idle k e = absurd (cc e)
    at_stage (leader.Challenged write kept) k e = absurd (cc e)
    at_stage (leader.Auditing number write share sigma opened) k e = absurd (cc e)
    at_stage (leader.Settling number write own other) k e = absurd (cc e)
    at_stage (leader.Done want kept) k e = absurd (cc e)

-- ---- the reply is applied as the table tells

pub record Registers_to (b : Book) (a : Leader) (c s address n i : ℕ) (after : Table) (result : Result) : Type 0 where
  pub boxes : List Box
  pub kept : PlainBody
  pub is : steps.if_fits a (steps.fits a (frame_with c s n (frame.LinkRegister address)) (reply_with b i (line c s) result) (steps.refusal_in (reply_with b i (line c s) result)))
      ≡ applied a c (leader.row s (leader.Done want.Register kept)) boxes kept s
  pub boxes_is : boxes ≡ map (λ m. box_at b 0 m) after.boxes
  pub kept_is : (zero : Result) → answer_with b i (line c s) zero result ≡ kept
  pub frame : IsFrame (frame_with c s 0 kept)

module _ (b : Book) (a : Leader) (c s address n i : ℕ) (t : Table) (key : List ℕ)
    (boxes_is : a.boxes ≡ map (λ m. box_at b 0 m) t.boxes) (limit : a.settings.boxes ≡ b.settings.boxes) (width : a.settings.width ≡ b.settings.width) (small : b.settings.boxes ≤ 4096)
    (few : length t.boxes ≤ b.settings.boxes) (key_is : key ≡ key_at b 0 c s) (waits : WaitsWith (row_at a c) s address key)
    (lane : c < 2 ^ 16) (serial : s < 2 ^ 32) (first : 1 ≤ s) where
  count_is : length a.boxes ≡ length t.boxes
  count_is = ap length boxes_is ∙ length-map t.boxes (λ m. box_at b 0 m)

  new : with_new a.settings.width address key a.boxes ≡ map (λ m. box_at b 0 m) (t.boxes ++ tables.new_box b.settings.width (line c s) address ∷ [])
  new = rw (width, key_is, boxes_is) (sym (map_more (λ m. box_at b 0 m) t.boxes (tables.new_box b.settings.width (line c s) address)))

  registered_is : (stage : leader.Stage) (number k : ℕ)
      → stage ≡ leader.Waiting number (Registering address key) → k ≡ length t.boxes
      → box_of address t.boxes ≡ None → length t.boxes < b.settings.boxes
      → steps.registered a (frame_with c s n (frame.LinkRegister address)) address stage k
      ≡ Some (applied a c (leader.row s (leader.Done want.Register (frame.Registered k))) (with_new a.settings.width address key a.boxes) (frame.Registered k) s)
  unfolding steps.registered
  registered_is stage number k is e none room =
      let count = count_is in
      let here : nat_eq k (length a.boxes) ≡ true = eq-eqb _ _ (e ∙ sym count) in
      let free : place_of address a.boxes ≡ None = ap (place_of address) boxes_is ∙ place_same b 0 address t.boxes ∙ none in
      let open_ : nat_le a.settings.boxes (length a.boxes) ≡ false = false_from_ne_true _ (λ u. let l = leb-true _ _ u in omega (arith, l, limit, count, room)) in
      rw (is, here, free, open_) refl

  pub reply_made : (found : Option ℕ) → box_of address t.boxes ≡ found
      → ((k : ℕ) → found ≡ Some k → k < length t.boxes)
      → Registers_to b a c s address n i (after_register b.settings.boxes b.settings.width t (line c s) address found) (register_result b.settings.boxes t found)
  unfolding steps.fits steps.by_command after_register reply_with answer_with
  reply_made (Some k) is there = record {
    boxes = a.boxes;
    kept = frame.Refused (refusal.Taken k);
    is = refl;
    boxes_is = boxes_is;
    kept_is = λ r. refl;
    frame = let low = there k refl in record { lane = lane; serial = serial; addressed = first; link = omega arith; linked = refl; body = omega (arith, low, few, small) };
  }
  reply_made None is there = at_test (nat_le b.settings.boxes (length t.boxes)) (λ e. leb-false _ _ e)
    where
      at_test : (full : Bool) → (full ≡ false → length t.boxes < b.settings.boxes)
          → Registers_to b a c s address n i
          (cond full t (record { boxes = t.boxes ++ tables.new_box b.settings.width (line c s) address ∷ []; got = λ d. cond (nat_eq d c) (t.got c ++ length t.boxes ∷ []) (t.got d); count = t.count }))
          (cond full (tables.Full b.settings.boxes) (tables.Registered (length t.boxes)))
      at_test true room = record {
        boxes = a.boxes;
        kept = frame.Refused (refusal.Full b.settings.boxes);
        is = refl;
        boxes_is = boxes_is;
        kept_is = λ r. refl;
        frame = record { lane = lane; serial = serial; addressed = first; link = omega arith; linked = refl; body = omega (arith, small) };
      }
      at_test false room = record {
        boxes = with_new a.settings.width address key a.boxes;
        kept = frame.Registered (length t.boxes);
        is = by_registered (registered_is (row_at a c).stage waits.number (length t.boxes) waits.stage refl is (room refl));
        boxes_is = new;
        kept_is = λ r. refl;
        frame = record { lane = lane; serial = serial; addressed = first; link = omega arith; linked = refl; body = omega (arith, few, small) };
      }
        where
          by_registered : {turn : AckTurn}
              → steps.registered a (frame_with c s n (frame.LinkRegister address)) address (row_at a c).stage (length t.boxes) ≡ Some turn
              → steps.if_fits a (steps.fits a (frame_with c s n (frame.LinkRegister address)) (frame.LinkReply (frame.ReplyRegistered (length t.boxes))) None) ≡ turn
          by_registered e = ap (steps.if_fits a) e

-- ---- the reply comes

same_result : (b : Book) (i c s address : ℕ) → request_of b c s ≡ Some (Register address)
    → result_at b 1 i (line c s) ≡ register_result b.settings.boxes (shares_at b 0 i) (box_of address (shares_at b 0 i).boxes)
same_result b i c s address q =
    result_is b i c s address q
    ∙ by_found (box_of address (shares_at b 1 i).boxes)
    ∙ ap (register_result b.settings.boxes (shares_at b 0 i)) (sym (same_box b i address))
  where
    by_found : (found : Option ℕ)
        → register_result b.settings.boxes (shares_at b 1 i) found ≡ register_result b.settings.boxes (shares_at b 0 i) found
    by_found (Some k) = refl
    by_found None = ap (λ n. cond (nat_le b.settings.boxes n) (tables.Full b.settings.boxes) (tables.Registered n)) (sym (same_length b i))

-- its bytes are a reply's
reply_fits : (b : Book) (i c s width : ℕ) (t : Table) (found : Option ℕ)
    → (is_reply (reply_with b i (line c s) (register_result b.settings.boxes t found)) ≡ true) × (has_width width (reply_with b i (line c s) (register_result b.settings.boxes t found)) ≡ true)
unfolding reply_with
reply_fits b i c s width t (Some k) = (refl, refl)
reply_fits b i c s width t None = by_room (nat_le b.settings.boxes (length t.boxes))
  where
    by_room : (full : Bool)
        → (is_reply (reply_with b i (line c s) (cond full (tables.Full b.settings.boxes) (tables.Registered (length t.boxes)))) ≡ true)
        × (has_width width (reply_with b i (line c s) (cond full (tables.Full b.settings.boxes) (tables.Registered (length t.boxes)))) ≡ true)
    by_room true = (refl, refl)
    by_room false = (refl, refl)

pub answer_is : (b : Book) (c s i address : ℕ) (result : Result) → request_of b c s ≡ Some (Register address)
    → place b c s Registers ≡ i → result_at b 1 i (line c s) ≡ result
    → answer_at b c s ≡ answer_with b i (line c s) (result_at b 0 i (line c s)) result
unfolding answer_at
answer_is b c s i address result q at e =
    rw (q, at) (ap (answer_with b i (line c s) (result_at b 0 i (line c s))) e)

pub entry_of : (es : List Entry) (i : ℕ) (x : Line) → slice_get (lines_of es) i ≡ Some x
    → (e : Entry) × ((slice_get es i ≡ Some e) × (e.line ≡ x))
entry_of [] i x e = absurd (cc e)
entry_of (y ∷ es) zero x e = (y, (refl, cc))
entry_of (y ∷ es) (suc i) x e = entry_of es i x e

module _ (b : Book) (o : Oracle) (f : FrameWorld) (w : World) (p : ℕ → Stage) (c s address : ℕ)
    (sound : Sound b) (within : Within b w) (ok : Coherent w p) (h : Follows b f w) (hon : b.foreign c ≡ false) (low : c < b.settings.lanes) (there : slice_get w.commands w.acknowledged ≡ Some (line c s))
    (carried : w.acknowledged < w.carried) (q : request_of b c s ≡ Some (Register address))
    (did : (i : ℕ) (e : Entry) → slice_get w.journal i ≡ Some e → e.line ≡ line c s → e.does ≡ AddBox address) where
  honest : w.foreign c ≡ false
  honest = ap (λ foreign. foreign c) h.foreign ∙ hon

  entry_there : slice_get b.entries w.acknowledged ≡ Some (entry (line c s) (AddBox address))
  entry_there =
      let is : slice_get (lines_of w.journal) w.acknowledged ≡ Some (line c s) = rw ok.journal (taken_get w.commands w.carried w.acknowledged (line c s) carried there) in
      let e = entry_of w.journal w.acknowledged (line c s) is in
      let does = did w.acknowledged e.0 e.1.0 e.1.1 in
      let same : e.0 ≡ entry (line c s) (AddBox address) = ap (λ x. entry x e.0.does) e.1.1 ∙ ap (entry (line c s)) does in
      (get_taken b.entries (length w.journal) w.acknowledged _ (ap (λ es. slice_get es w.acknowledged) (sym within.journal) ∙ e.1.0 ∙ ap Some same)).1

  applied_is : reply_applied o w (line c s) ≡ answers w c s token.Done
  unfolding reply_applied acks
  applied_is = rw honest (acks_is w c s Registers)

  pub applied_register : (n : ℕ)
      → Follows b (frames.to_leader_link f (steps.if_fits f.leader (steps.fits f.leader (frame_with c s n (frame.LinkRegister address)) (reply_body b w.acknowledged (line c s)) (steps.refusal_in (reply_body b w.acknowledged (line c s)))))) (reply_applied o w (line c s))
  unfolding frame_of after_line
  applied_register n =
      let la = h.leader in
      let i = w.acknowledged in
      let t = shares_at b 0 i in
      let key = key_of b c s in
      let found = box_of address t.boxes in
      let limits = sound.limits in
      let size : b.settings.boxes ≤ 4096 = limits.1.1 in
      let lanes : b.settings.lanes ≤ 256 = limits.2.1 in
      let hr = row_of b f w c h hon low in
      let waits = waits_for w p c s ok honest there carried in
      let row_waits = stage_waits b c s address (row_at f.leader c) (w.lanes c).leader hr waits.row_serial waits.row_phase q in
      let small = hr.small in
      let serial = row_waits.serial in
      let key_is : key ≡ key_at b 0 c s = rw hon refl in
      let made = reply_made b f.leader c s address n i t key la.boxes (ap (λ x. x.boxes) la.settings) (ap (λ x. x.width) la.settings) size (shares_few b 0 i) key_is row_waits
      (omega (arith, low, lanes)) (omega (arith, small, serial)) waits.first found refl
      (λ k e. let below = (position-Some (λ other. nat_eq other address) (addresses t.boxes) k 0 e).0 in let m = length-map t.boxes (λ m. m.address) in omega (arith, below, m)) in
      let result = same_result b i c s address q in
      let body : reply_body b i (line c s) ≡ reply_with b i (line c s) (register_result b.settings.boxes t found) = ap (reply_with b i (line c s)) result in
      let at = place_is b w p c s i Registers ok within honest there in
      let answer : made.kept ≡ answer_at b c s = sym (made.kept_is (result_at b 0 i (line c s))) ∙ sym (answer_is b c s i address _ q at result) in
      rw (body, made.is, applied_is)
      (applied_follows b f w c s token.Done (token.Answer c s) (leader.row s (leader.Done want.Register made.kept)) made.boxes made.kept h hon low refl
      (record { bare = refl; small = omega (arith, small, serial); want = λ pos. sym (ap wants q); holds = (answer, made.frame) })
      tt
      (record { entry = entry (line c s) (AddBox address); is = entry_there; lane = refl })
      (made.boxes_is ∙ ap (λ u. map (λ m. box_at b 0 m) u.boxes) (sym (shares_next b 0 i (entry (line c s) (AddBox address)) entry_there)))
      (record { lane = low; frame = frame_with c s 0 made.kept; is = ap (λ x. Some (frame_with c s 0 x)) (sym answer); spelled = record { at = refl; bytes = refl; is_frame = made.frame } }))

reply_frame : (b : Book) (c s n : ℕ) (g : PlainFrame) → frame_of b (token.Replied n (line c s)) ≡ Some g
    → g ≡ frame_with c s n (reply_body b (n - 1) (line c s))
unfolding frame_of
reply_frame b c s n g e = cc

command_frame : (b : Book) (c s n address : ℕ) (g : PlainFrame) → request_of b c s ≡ Some (Register address)
    → frame_of b (token.Ordered n (line c s)) ≡ Some g → g ≡ frame_with c s n (frame.LinkRegister address)
unfolding frame_of command_body
command_frame b c s n address g q e =
    let k : Some (frame_with c s n (frame.LinkRegister address)) ≡ Some g = rw q at e in cc

pub register_replied : (b : Book) (o : Oracle) (f : FrameWorld) (w : World) (p : ℕ → Stage) (c s n address : ℕ) (l : Letter) → Sound b → Within b w → Coherent w p
    → Claims (state w p) (token.Replied n (line c s)) → request_at (sent_of w) c s ≡ Some (Register address)
    → ((i : ℕ) (e : Entry) → slice_get w.journal i ≡ Some e → e.line ≡ line c s → e.does ≡ AddBox address)
    → Follows b f w → b.foreign c ≡ false → Carries b (token.Replied n (line c s)) l
    → Follows b (frames.comes f l.to l.bytes) (comes o w (token.Replied n (line c s)))
unfolding comes frames.comes
register_replied b o f w p c s n address l sound within ok claim sent did h hon k =
    let one : IsFrameOf b l ToLeaderLink c (token.Replied n (line c s)) = rw hon at k in
    let q = asked_was_sent b w c s (Register address) (within.sent c) sent in
    let is = reply_frame b c s n one.frame one.is in
    let spelled = subst (Spelled l ToLeaderLink) is one.spelled in
    let body = reply_body b (n - 1) (line c s) in
    let g = frame_with c s n body in
    let number = claim.1.0 in
    let next = number.next in
    let low = claim.1.1 in
    let width = f.leader.settings.width in
    let result = same_result b (n - 1) c s address q in
    let fits = reply_fits b (n - 1) c s width (shares_at b 0 (n - 1)) (box_of address (shares_at b 0 (n - 1)).boxes) in
    let read = linked_spelled is_reply width g spelled.is_frame (ap (λ r. is_reply (reply_with b (n - 1) (line c s) r)) result ∙ fits.0) (ap (λ r. has_width width (reply_with b (n - 1) (line c s) r)) result ∙ fits.1) in
    rw (spelled.at, spelled.bytes, read)
    (reply_follows b o f w p n (line c s) g h number hon refl refl refl (λ v of e.
    let command = command_frame b c s n address v q (rw hon at of) in
    let there : slice_get w.commands w.acknowledged ≡ Some (line c s) = subst (λ i. slice_get w.commands i ≡ Some (line c s)) (omega (arith, e, next)) number.is in
    let at : n - 1 ≡ w.acknowledged = omega (arith, e) in
    rw (command, at) (applied_register b o f w p c s address sound within ok h hon one.lane there (omega (arith, e, low)) q did n)))
