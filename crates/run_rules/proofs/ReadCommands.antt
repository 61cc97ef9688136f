-- The command of a read or retire comes to the helper, in both runs.
use Rattle.std.proofs.Common.{◌≡◌, ◌∙◌, ◌<◌, ◌≤◌, ◌^◌, ◌+◌, ◌-◌, ℕ, zero, suc, cond, nat_eq, nat_le, true, false, Bool, List, [], ◌∷◌, length, map, take, replicate, Some, slice_get, refl, sym, ap, subst, arith, length-take, length-append}
use Rattle.std.proofs.lemmas.Bool.{eq-eqb, leb-true, false_from_ne_true}
use Rattle.std.proofs.lemmas.Option.{slice_get_within}
use Rattle.std.proofs.lemmas.List.FromFn.{length-map-range_with_len}
use Rattle.express_words.specs.declared.refusal.Refusal.TheVariants as refusal
use Rattle.frame_rules.specs.declared.frame.DepositBody.TheVariants as deposit
use Rattle.frame_rules.specs.Frames as frame
use Rattle.frame_rules.specs.Frames.{PlainFrame, PlainBody}
use Rattle.frame_rules.specs.Spelling.{IsFrame}
use Rattle.frame_rules.specs.Whole.{has_width, is_command, on_link}
use Rattle.lane_table.specs.declared.row.Want.TheVariants as want
use Rattle.express_words.specs.Bytes.{xor_bytes}
use Rattle.dpf_rules.specs.Expansion as expansion
use Rattle.dpf_rules.specs.Expansion.{mask, read_stream, stream_byte, stream_bytes}
use Rattle.express_words.proofs.Bytes.{length-xor_bytes}
use Rattle.mailbox_rules.specs.Requests.{Line, entry, reads_box, retires_box, operation_of}
use Rattle.mailbox_rules.specs.Tables.{Mailbox, Table, Result, Gave, NoBox, after_line, boxes_cleared, given, result_of}
use Rattle.token_rules.specs.Tokens as token
use Rattle.token_rules.specs.Tokens.{World, Lane, Oracle}
use Rattle.token_rules.specs.Rows.{carried_row}
use Rattle.token_rules.specs.Run.{asked_operation, carries, carries_next, comes, line_of}
use Rattle.token_rules.specs.Stages.{Stage, Opening, Fits}
use Rattle.token_rules.specs.Invariant.{Coherent}
use Rattle.step_rules.specs.Boxes.{Box, with_read}
use Rattle.step_rules.specs.Helper as helper
use Rattle.step_rules.specs.Helper.{Helper, Server, Row, row_at}
use Rattle.step_rules.specs.HelperCommands as steps
use Rattle.step_rules.specs.HelperCommands.{Effect, effect}
use Rattle.step_tokens.specs.HelperRows.{bare_phase}
use Rattle.run_rules.specs.Letters.{ToHelperLink, FrameWorld}
use Rattle.run_rules.specs.Run as frames
use Rattle.run_rules.specs.Book.{Book, box_of, has_begun, owned_box, request_of, table_at, wants}
use Rattle.run_rules.specs.Values.{box_at, boxes_at, key_at, shares_at, writes_at}
use Rattle.run_rules.specs.Frames.{command_body, frame_of, frame_with, line_value, reply_body, reply_with, result_at}
use Rattle.run_rules.specs.Follows.{Spelled, IsFrameOf, Follows, HelperHolds, HelperRow, Sound, Within}
use Rattle.run_rules.specs.Known.{Known}
use Rattle.run_rules.specs.Laws.{ComesFollows}
use Rattle.run_rules.proofs.HelperCommands.{carried_follows, left_by, lines_length, draws_same}
use Rattle.run_rules.proofs.HelperOrders.{asked_was_sent, ordered_follows, comes_next}
use Rattle.run_rules.proofs.HelperRegistered.{entry_is, linked_spelled}
use Rattle.run_rules.proofs.HelperRegisters.{shares_few, shares_next}
use Rattle.run_rules.proofs.HelperRuns.{row_of}
use Rattle.run_rules.proofs.Effects.{read_effect}
use Rattle.run_rules.proofs.Widths.{share_width}
use Rattle.run_rules.proofs.ReadBoxes.{own_keys, share_box, table_now}
use Rattle.run_rules.proofs.ReadBasics.{Current, Holds, asks, command_for, current_box, deposit_made, does_for, link_for, token1}

abbrev pub line : Bool → ℕ → ℕ → Line
line stays c s = line_of c s (command_for stays)

-- ---- what it does

pub result_is : (b : Book) (server i : ℕ) (stays : Bool) (c s own n : ℕ) → request_of b c s ≡ Some (asks stays own)
    → slice_get ((table_at b i).got c) own ≡ Some n
    → result_at b server i (line stays c s) ≡ given n (slice_get (shares_at b server i).boxes n)
unfolding result_at result_of
result_is b server i true c s own n q e =
    ap (λ r. result_of b.settings.boxes (writes_at b server) (shares_at b server i) (line true c s) (operation_of ((table_at b i).got c) (command_for true) r)) q
    ∙ ap (λ o. result_of b.settings.boxes (writes_at b server) (shares_at b server i) (line true c s) (reads_box o)) e
result_is b server i false c s own n q e =
    ap (λ r. result_of b.settings.boxes (writes_at b server) (shares_at b server i) (line false c s) (operation_of ((table_at b i).got c) (command_for false) r)) q
    ∙ ap (λ o. result_of b.settings.boxes (writes_at b server) (shares_at b server i) (line false c s) (retires_box o)) e

-- a retired box is left as it is
pub dead_same : (width : ℕ) (stays : Bool) (ms : List Mailbox) (n : ℕ) (m : Mailbox) → slice_get ms n ≡ Some m → m.live ≡ false
    → boxes_cleared width stays ms n ≡ ms
unfolding boxes_cleared
dead_same width stays [] n m e dead = refl
dead_same width stays (x ∷ ms) zero m e dead =
    let same : x ≡ m = cc in
    ap (λ t. cond t (record x { bytes = replicate width 0; live = stays }) x ∷ ms) (ap (λ x. x.live) same ∙ dead)
dead_same width stays (x ∷ ms) (suc n) m e dead = ap (λ l. x ∷ l) (dead_same width stays ms n m e dead)

pub after_read : (b : Book) (server : ℕ) (stays : Bool) (c s n : ℕ) (t : Table)
    → (after_line b.settings.boxes b.settings.width (writes_at b server) t (line stays c s) (does_for stays n)).boxes ≡ boxes_cleared b.settings.width stays t.boxes n
unfolding after_line
after_read b server true c s n t = refl
after_read b server false c s n t = refl

-- the effect is that of the table, with this body
pub record ReadsTo (b : Book) (h : Server) (g : PlainFrame) (c s i : ℕ) (stays : Bool) (n : ℕ) (ms : List Mailbox) (result : Result) (e : Effect) : Type 0 where
  pub boxes : List Box
  pub body : PlainBody
  pub is : e ≡ effect (left_by h c (helper.row s (helper.Done want.Read)) boxes h.draws) body
  pub boxes_is : boxes ≡ map (λ m. box_at b 1 m) (boxes_cleared b.settings.width stays ms n)
  pub body_is : body ≡ reply_with b i (line stays c s) result
  pub frame : 1 ≤ s → IsFrame (on_link g g.link body)

pub mask_length : (key : List ℕ) (c s width : ℕ) → length (mask key c s width) ≡ width
unfolding stream_bytes
mask_length key c s width = length-map-range_with_len (stream_byte key (read_stream c s)) 16 width

pub masked_length : (bytes key : List ℕ) (c s width : ℕ) → length bytes ≡ width → length (xor_bytes bytes (mask key c s width)) ≡ width
masked_length bytes key c s width e = length-xor_bytes bytes (mask key c s width) (e ∙ sym (mask_length key c s width)) ∙ e

module _ (b : Book) (h : Server) (stays : Bool) (c s n k i held : ℕ) (m : Mailbox) (sound : Sound b)
    (boxes_is : h.boxes ≡ boxes_at b 1 i) (width : h.settings.width ≡ b.settings.width)
    (there : slice_get (shares_at b 1 i).boxes n ≡ Some m) (boxed : slice_get (boxes_at b 1 i) n ≡ Some (box_at b 1 m))
    (fits : held ≡ expansion.token (key_at b 1 m.lane m.serial) c s)
    (lane : c < 2 ^ 16) (serial : s < 2 ^ 32) (number : 1 ≤ k) (number_small : k < 2 ^ 64) where
  abbrev g : PlainFrame
  g = frame_with c s k (link_for stays n)

  small : n < 2 ^ 32
  small =
      let within = slice_get_within (shares_at b 1 i).boxes n m there in
      let few = shares_few b 1 i in
      let limit = sound.limits.1.1 in
      omega (arith, within, few, limit)

  abbrev body_of : List ℕ
  body_of = xor_bytes m.bytes (mask (key_at b 1 m.lane m.serial) c s b.settings.width)

  masked_is : reply_with b i (line stays c s) (Gave n m.bytes) ≡ frame.LinkReply (frame.ReplyMasked body_of)
  unfolding reply_with
  masked_is = rw there refl

  live_made : m.live ≡ true → ReadsTo b h g c s i stays n (shares_at b 1 i).boxes (Gave n m.bytes) (steps.read_live h g stays n held (box_at b 1 m))
  unfolding steps.read_live
  live_made live =
      let same : nat_eq held (expansion.token (key_at b 1 m.lane m.serial) c s) ≡ true = eq-eqb _ _ fits in
      let wide = masked_length m.bytes (key_at b 1 m.lane m.serial) c s b.settings.width (share_width b 1 i n m sound there) in
      record {
        boxes = with_read h.settings.width stays n (box_at b 1 m) h.boxes;
        body = frame.LinkReply (frame.ReplyMasked (xor_bytes m.bytes (mask (key_at b 1 m.lane m.serial) c s h.settings.width)));
        is = rw same refl;
        boxes_is = rw (width, boxes_is) (read_effect b 1 b.settings.width stays n m (shares_at b 1 i).boxes there live);
        body_is = rw width (sym masked_is);
        frame = λ first. record { lane = lane; serial = serial; addressed = first; link = number_small; linked = number; body = rw (width, wide) (sound.limits.0) };
      }

  dead_made : m.live ≡ false → ReadsTo b h g c s i stays n (shares_at b 1 i).boxes (NoBox n) (steps.refuses (steps.done h g want.Read) (refusal.NoBox n))
  unfolding reply_with
  dead_made dead = record {
    boxes = h.boxes;
    body = frame.LinkReply (frame.ReplyRefused (refusal.NoBox n));
    is = refl;
    boxes_is = boxes_is ∙ ap (map (λ m. box_at b 1 m)) (sym (dead_same b.settings.width stays (shares_at b 1 i).boxes n m there dead));
    body_is = refl;
    frame = λ first. record { lane = lane; serial = serial; addressed = first; link = number_small; linked = number; body = small };
  }

  pub read_made : ReadsTo b h g c s i stays n (shares_at b 1 i).boxes (given n (Some m)) (steps.read_at h g stays n held (Some (box_at b 1 m)))
  unfolding steps.read_at
  read_made = at_life m.live refl
    where
      at_life : (t : Bool) → m.live ≡ t
          → ReadsTo b h g c s i stays n (shares_at b 1 i).boxes (cond t (Gave n m.bytes) (NoBox n))
          (cond t (steps.read_live h g stays n held (box_at b 1 m)) (steps.refuses (steps.done h g want.Read) (refusal.NoBox n)))
      at_life true e = live_made e
      at_life false e = dead_made e

-- ---- the row is ready

pub record Ready (w : World) (c s : ℕ) : Type 0 where
  pub serial : (w.lanes c).serial ≡ s
  pub step : 0 < (w.lanes c).step
  pub row_serial : (w.lanes c).helper.serial ≡ s
  pub row_phase : (w.lanes c).helper.phase ≡ token.Deposited
  pub first : 1 ≤ s

ready_at : (w : World) (p : ℕ → Stage) (stays : Bool) (c s : ℕ) → Coherent w p → w.foreign c ≡ false
    → slice_get w.commands w.carried ≡ Some (line stays c s) → (p c ≡ Opening) × ((w.lanes c).serial ≡ s)
ready_at w p true c s ok hon e = let now = (ok.lines w.carried _ e hon).out (omega arith) in (now.stage, now.serial)
ready_at w p false c s ok hon e = let now = (ok.lines w.carried _ e hon).out (omega arith) in (now.stage, now.serial)

is_ready : (w : World) (p : ℕ → Stage) (stays : Bool) (c s : ℕ) → Coherent w p → w.foreign c ≡ false
    → slice_get w.commands w.carried ≡ Some (line stays c s) → Ready w c s
is_ready w p stays c s ok hon e =
    let at = ready_at w p stays c s ok hon e in
    let fits : Fits (w.lanes c) Opening = subst (Fits (w.lanes c)) at.0 (ok.fits c hon) in
    let same = at.1 in
    let step = fits.step in
    let first = fits.numbered in
    record {
      serial = same;
      step = omega (arith, step);
      row_serial = fits.helper_serial ∙ same;
      row_phase = fits.helper_phase;
      first = omega (arith, same, first);
    }

-- what it holds
stage_held : (b : Book) (stays : Bool) (c s own n : ℕ) (r : Row) (x : token.Row) → HelperRow b c r x → x.serial ≡ s
    → x.phase ≡ token.Deposited → request_of b c s ≡ Some (asks stays own) → Holds b c s own n
    → (r.serial ≡ s) × (r.stage ≡ helper.Deposited (deposit.Read (token1 b c s n)))
stage_held b stays c s own n r x h serial phase q k =
    let same : r.serial ≡ s = ap (λ y. y.serial) h.bare ∙ serial in
    (same, at_stage r.stage (subst (λ n. HelperHolds b c n r.stage) same h.holds) (ap (λ y. y.phase) h.bare ∙ phase))
  where
    at_stage : (stage : helper.Stage) → HelperHolds b c s stage → bare_phase stage ≡ token.Deposited
        → stage ≡ helper.Deposited (deposit.Read (token1 b c s n))
    at_stage (helper.Deposited held) d e =
        let both : Some (frame.Deposit held) ≡ Some (frame.Deposit (deposit.Read (token1 b c s n))) = sym d ∙ deposit_made b stays c s own n q k in
        let same : held ≡ deposit.Read (token1 b c s n) = cc in
        ap helper.Deposited same
    at_stage helper.Idle d e = absurd (cc e)
    at_stage (helper.Begun write) d e = absurd (cc e)
    at_stage (helper.Proved write share) d e = absurd (cc e)
    at_stage (helper.Audited write closing) d e = absurd (cc e)
    at_stage (helper.Done want) d e = absurd (cc e)

-- ---- the command is carried out

none_begun : (stays : Bool) (x : Line) (n : ℕ) → has_begun (entry x (does_for stays n)).does ≡ false
none_begun true x n = refl
none_begun false x n = refl

command_is : (h : Server) (stays : Bool) (c s k n held : ℕ)
    → steps.command h (frame_with c s k (link_for stays n)) (link_for stays n) (helper.Deposited (deposit.Read held)) ≡ steps.read_at h (frame_with c s k (link_for stays n)) stays n held (slice_get h.boxes n)
unfolding steps.command steps.read
command_is h true c s k n held = refl
command_is h false c s k n held = refl

carries_out_is : (h : Server) (stays : Bool) (c s k n held : ℕ) → c < h.settings.lanes
    → (row_at h c).serial ≡ s → (row_at h c).stage ≡ helper.Deposited (deposit.Read held)
    → steps.carries_out h (frame_with c s k (link_for stays n)) ≡ steps.read_at h (frame_with c s k (link_for stays n)) stays n held (slice_get h.boxes n)
unfolding steps.carries_out
carries_out_is h stays c s k n held low serial stage =
    let there : nat_le h.settings.lanes c ≡ false = false_from_ne_true _ (λ t. let l = leb-true _ _ t in omega (arith, low, l)) in
    let same : nat_eq (row_at h c).serial s ≡ true = eq-eqb _ _ serial in
    rw (there, same, stage) (command_is h stays c s k n held)

reply_is : (b : Book) (stays : Bool) (i c s : ℕ) (body : PlainBody) (result : Result) → result_at b 1 i (line stays c s) ≡ result
    → body ≡ reply_with b i (line stays c s) result
    → frame_of b (token.Replied (i + 1) (line stays c s)) ≡ Some (frame_with c s (i + 1) body)
unfolding frame_of
reply_is b stays i c s body result e k =
    let same : i + 1 - 1 ≡ i = omega arith in
    rw same (ap (λ x. Some (frame_with c s (i + 1) x)) (ap (reply_with b i (line stays c s)) e ∙ sym k))

pub command_at : (b : Book) (stays : Bool) (i c s n : ℕ) → box_of b c s ≡ n
    → command_body b i (line stays c s) (command_for stays) ≡ link_for stays n
unfolding command_body
command_at b true i c s n e = ap frame.LinkRead e
command_at b false i c s n e = ap frame.LinkRetire e

line_is : (b : Book) (stays : Bool) (i c s n : ℕ) (body : PlainBody) (result : Result) → box_of b c s ≡ n
    → result_at b 1 i (line stays c s) ≡ result → body ≡ reply_with b i (line stays c s) result
    → frames.journal_line (frame_with c s (i + 1) (link_for stays n)) (frame_with c s (i + 1) body) ≡ line_value b i (line stays c s)
line_is b stays i c s n body result at e k =
    let same : body ≡ reply_body b i (line_of c s (command_for stays)) = k ∙ ap (reply_with b i (line_of c s (command_for stays))) (sym e) in
    ap (λ x. record { lane = c; serial = s; value = frames.value_of x body }) (sym (command_at b stays i c s n at))
    ∙ ap (λ x. record { lane = c; serial = s; value = frames.value_of (command_body b i (line_of c s (command_for stays)) (command_for stays)) x }) same

row_done : (b : Book) (stays : Bool) (c s own : ℕ) → s < 2 ^ 32 → request_of b c s ≡ Some (asks stays own)
    → HelperRow b c (helper.row s (helper.Done want.Read)) (carried_row (line stays c s))
row_done b true c s own small q = record { bare = refl; small = small; want = λ pos. sym (ap wants q); holds = tt }
row_done b false c s own small q = record { bare = refl; small = small; want = λ pos. sym (ap wants q); holds = tt }

pub journal_count : (w : World) (p : ℕ → Stage) → Coherent w p → length w.journal ≡ w.carried
journal_count w p ok =
    let lines = sym (lines_length w.journal) ∙ ap length ok.journal ∙ length-take w.carried w.commands in
    let k = ok.carried in
    omega (arith, lines, k)

carried_small : (b : Book) (w : World) (p : ℕ → Stage) → Sound b → Within b w → Coherent w p → w.carried + 1 < 2 ^ 63
carried_small b w p sound within ok =
    let t = ap length within.commands ∙ length-take (length w.commands) b.commands in
    let n = sound.numbers in
    let k = ok.carried in
    omega (arith, t, n, k)

module _ (b : Book) (f : FrameWorld) (v w : World) (stays : Bool) (c s own : ℕ) (known : Known b v w) (h : Follows b f w) (hon : b.foreign c ≡ false) (low : c < b.settings.lanes)
    (q : request_of b c s ≡ Some (asks stays own)) (next : slice_get w.commands w.carried ≡ Some (line stays c s)) where
  honest : w.foreign c ≡ false
  honest = ap (λ foreign. foreign c) h.foreign ∙ hon

  ready : Ready w c s
  ready = is_ready w known.lawful.stages stays c s known.lawful.coherent honest next

  pub now : Current b w c s own
  now = current_box b v w stays c s own known honest ready.step ready.serial q

  -- what the token run has it do
  asked_is : asked_operation w (line stays c s) ≡ does_for stays now.number
  asked_is =
      let sent = known.lawful.sent.lines w.carried (line stays c s) next honest in
      let there = asked_was_sent b w c s sent.request (known.within.sent c) sent.is in
      let both : Some sent.request ≡ Some (asks stays own) = sym there ∙ q in
      ap (operation_of (w.table.got c) (command_for stays)) (sent.is ∙ both) ∙ by_kind stays ∙ refl
    where
      by_kind : (t : Bool) → operation_of (w.table.got c) (command_for t) (Some (asks t own)) ≡ does_for t now.number
      by_kind true = ap reads_box now.got
      by_kind false = ap retires_box now.got

  pub carries_is : (o : Oracle) → carries_next o w (line stays c s) ≡ carries w (line stays c s) (carried_row (line stays c s)) (does_for stays now.number)
  unfolding carries_next
  carries_is o = rw honest (ap (carries w (line stays c s) (carried_row (line stays c s))) asked_is)

  abbrev pub command : PlainFrame
  command = frame_with c s (w.carried + 1) (link_for stays now.number)

  pub next_follows : Within b (carries w (line stays c s) (carried_row (line stays c s)) (does_for stays now.number))
      → Follows b (frames.to_helper_link f (Some command) (steps.arrives f.helper command)) (carries w (line stays c s) (carried_row (line stays c s)) (does_for stays now.number))
  unfolding steps.arrives
  next_follows within =
      let ok = known.lawful.coherent in
      let hh = h.helper in
      let server = f.helper.server in
      let i = w.carried in
      let n = now.number in
      let count = journal_count w known.lawful.stages ok in
      let table : w.table ≡ table_at b i = table_now b v w known ∙ ap (table_at b) count in
      let there : slice_get (table_at b i).boxes n ≡ Some now.box = ap (λ t. slice_get t.boxes n) (sym table) ∙ now.is in
      let got : slice_get ((table_at b i).got c) own ≡ Some n = ap (λ t. slice_get (t.got c) own) (sym table) ∙ now.got in
      let share = share_box b 1 i n now.box there in
      let keys = own_keys b c i n now.box hon there now.owner in
      let key : (owned_box b c n).key1 ≡ key_at b 1 share.box.lane share.box.serial = keys.one ∙ sym (ap (λ m. key_at b 1 m.lane m.serial) share.bare_is) in
      let limits = known.sound.limits in
      let lanes : b.settings.lanes ≤ 256 = limits.2.1 in
      let hr = row_of b f w c h hon low in
      let held = stage_held b stays c s own n (row_at server c) (w.lanes c).helper hr ready.row_serial ready.row_phase q now.holds in
      let small = hr.small in
      let serial = held.0 in
      let number = carried_small b w known.lawful.stages known.sound known.within ok in
      let made = read_made b server stays c s n (i + 1) i (token1 b c s n) share.box known.sound hh.boxes (ap (λ x. x.width) hh.settings) share.is share.held (ap (λ k. expansion.token k c s) key)
      (omega (arith, low, lanes)) (omega (arith, small, serial)) (omega arith) (omega (arith, number)) in
      let lane : c < server.settings.lanes = let e = ap (λ x. x.lanes) hh.settings in omega (arith, e, low) in
      let out : steps.carries_out server command ≡ effect _ made.body =
      carries_out_is server stays c s (i + 1) n (token1 b c s n) lane held.0 held.1
      ∙ ap (steps.read_at server command stays n (token1 b c s n)) (ap (λ bs. slice_get bs n) hh.boxes ∙ share.held)
      ∙ made.is in
      let link : nat_eq (i + 1) (f.helper.carried + 1) ≡ true = eq-eqb _ _ (ap (λ n. n + 1) (sym hh.number)) in
      let e = entry_is b w (line stays c s) (does_for stays n) count (within.journal ∙ ap (λ n. take n b.entries) (length-append w.journal (entry (line stays c s) (does_for stays n) ∷ []) ∙ ap (λ n. n + 1) count)) in
      let result = result_is b 1 i stays c s own n q got ∙ ap (given n) share.is in
      rw (link, out)
      (carried_follows b f w (line stays c s) (does_for stays n) command _ made.boxes server.draws made.body h hon low (limits.3.0) count e
      (row_done b stays c s own (omega (arith, small, serial)) q)
      (made.boxes_is ∙ ap (map (λ m. box_at b 1 m)) (sym (after_read b 1 stays c s n (shares_at b 1 i)) ∙ ap (λ u. u.boxes) (sym (shares_next b 1 i (entry (line stays c s) (does_for stays n)) e))))
      (hh.draws ∙ draws_same w.journal (entry (line stays c s) (does_for stays n)) (none_begun stays (line stays c s) n))
      (reply_is b stays i c s made.body _ result made.body_is)
      (made.frame ready.first)
      (line_is b stays i c s n made.body _ now.holds.named result made.body_is))

-- ---- the command comes

pub command_frame : (b : Book) (stays : Bool) (c s k : ℕ) (g : PlainFrame) → frame_of b (token.Ordered k (line stays c s)) ≡ Some g
    → g ≡ frame_with c s k (link_for stays (box_of b c s))
unfolding frame_of
command_frame b stays c s k g e =
    let is : Some (frame_with c s k (link_for stays (box_of b c s))) ≡ Some g = ap (λ x. Some (frame_with c s k x)) (sym (command_at b stays (k - 1) c s _ refl)) ∙ e in
    sym (cc is)

link_class : (stays : Bool) (n width : ℕ) → (is_command (link_for stays n) ≡ true) × (has_width width (link_for stays n) ≡ true)
link_class true n width = (refl, refl)
link_class false n width = (refl, refl)

pub read_ordered : (b : Book) (stays : Bool) (c s own k : ℕ) → b.foreign c ≡ false → request_of b c s ≡ Some (asks stays own)
    → ComesFollows b (token.Ordered k (line stays c s))
unfolding comes frames.comes steps.if_command
read_ordered b stays c s own k hon q o f v w i l known after e h letter_is =
    let ok = known.lawful.coherent in
    let one : IsFrameOf b l ToHelperLink c (token.Ordered k (line stays c s)) = rw hon at letter_is in
    let is = command_frame b stays c s k one.frame one.is in
    let spelled = subst (Spelled l ToHelperLink) is one.spelled in
    let g = frame_with c s k (link_for stays (box_of b c s)) in
    let claim = ok.pool i (token.Ordered k (line stays c s)) e in
    let number = claim.1 in
    let next = number.next in
    let class = link_class stays (box_of b c s) f.helper.server.settings.width in
    let read = linked_spelled is_command f.helper.server.settings.width g spelled.is_frame class.0 class.1 in
    rw (spelled.at, spelled.bytes, read)
    (ordered_follows b o f w known.lawful.stages k (line stays c s) g (known.sound.limits.3.0) ok number h refl (λ e.
    let there : slice_get w.commands w.carried ≡ Some (line stays c s) = subst (λ i. slice_get w.commands i ≡ Some (line stays c s)) (omega (arith, e, next)) number.is in
    let mine = now b f v w stays c s own known h hon one.lane q there in
    let same = carries_is b f v w stays c s own known h hon one.lane q there o in
    let within : Within b (carries w (line stays c s) (carried_row (line stays c s)) (does_for stays mine.number)) = subst (Within b) (comes_next o w k (line stays c s) e ∙ same) after.within in
    subst (λ m. Follows b (frames.to_helper_link f (Some (frame_with c s m (link_for stays (box_of b c s)))) (steps.arrives f.helper (frame_with c s m (link_for stays (box_of b c s))))) (carries_next o w (line stays c s))) (sym e)
    (subst (λ m. Follows b (frames.to_helper_link f (Some (frame_with c s (w.carried + 1) (link_for stays m))) (steps.arrives f.helper (frame_with c s (w.carried + 1) (link_for stays m)))) (carries_next o w (line stays c s))) (sym mine.holds.named)
    (subst (λ x. Follows b (frames.to_helper_link f (Some (frame_with c s (w.carried + 1) (link_for stays mine.number))) (steps.arrives f.helper (frame_with c s (w.carried + 1) (link_for stays mine.number)))) x) (sym same)
    (next_follows b f v w stays c s own known h hon one.lane q there within)))))
