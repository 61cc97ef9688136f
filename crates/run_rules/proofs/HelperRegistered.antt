-- The command of a register comes to the helper, in both runs.
use Rattle.std.proofs.Common.{◌≡◌, ℕ, ◌<◌, ◌≤◌, ◌^◌, ◌+◌, ◌-◌, nat_eq, nat_le, true, false, List, [], ◌∷◌, ◌++◌, length, take, map, Some, slice_get, refl, sym, ap, ◌∙◌, subst, arith, Bool, length-append}
use Rattle.std.proofs.lemmas.Bool.{eq-eqb, leb-true, false_from_ne_true}
use Rattle.std.proofs.lemmas.List.Quantifiers.{position-Some}
use Rattle.std.proofs.lemmas.List.{length-map, length-take}
use Rattle.frame_rules.specs.declared.frame.DepositBody.{DepositBody}
use Rattle.frame_rules.specs.declared.frame.DepositBody.TheVariants as deposit
use Rattle.frame_rules.specs.Frames as frame
use Rattle.frame_rules.specs.Frames.{PlainFrame, PlainBody}
use Rattle.frame_rules.specs.Spelling.{spelling, IsFrame}
use Rattle.mailbox_rules.specs.Requests.{Register, Command, Registers, Line, entry, Operation, AddBox}
use Rattle.mailbox_rules.specs.Tables.{Result, after_line, register_result, result_of, box_of, addresses}
use Rattle.token_rules.specs.Tokens as token
use Rattle.token_rules.specs.Tokens.{Token, World, Lane, put}
use Rattle.token_rules.specs.Rows.{carried_row}
use Rattle.token_rules.specs.Run.{carries}
use Rattle.token_rules.specs.Stages.{Stage, Opening, Fits, step_at}
use Rattle.token_rules.specs.Invariant.{Coherent}
use Rattle.token_rules.proofs.Lists.{get_end, get_taken}
use Rattle.frame_rules.specs.Whole.{linked, has_width}
use Rattle.step_rules.specs.Boxes.{place_of}
use Rattle.step_rules.specs.ClientAsks.{deposit_of}
use Rattle.step_rules.specs.Helper as helper
use Rattle.step_rules.specs.Helper.{Helper, Server, Row, row_at}
use Rattle.step_rules.specs.HelperCommands as steps
use Rattle.step_rules.specs.HelperCommands.{Effect, effect}
use Rattle.step_tokens.specs.HelperRows.{bare_phase}
use Rattle.run_rules.specs.Letters.{FrameWorld}
use Rattle.run_rules.specs.Run as frames
use Rattle.run_rules.specs.Book.{Book, request_of, wants, client_at}
use Rattle.run_rules.specs.Values.{key_at, box_at, shares_at}
use Rattle.run_rules.specs.Frames.{frame_with, frame_of, deposit_at, if_asked, command_body, reply_with, reply_body, result_at, line_value}
use Rattle.run_rules.specs.Follows.{HelperRow, HelperHolds, Within, Sound, Follows}
use Rattle.run_rules.proofs.Basics.{whole_spelled}
use Rattle.run_rules.proofs.HelperRuns.{row_of}
use Rattle.run_rules.proofs.HelperCommands.{carried_follows, lines_length, draws_same}
use Rattle.run_rules.proofs.HelperRegisters.{line, place_same, shares_next, shares_few, register_made}

-- ---- bytes of the link

pub linked_spelled : (class : PlainBody → Bool) (width : ℕ) (g : PlainFrame) → IsFrame g
    → class g.body ≡ true → has_width width g.body ≡ true → linked class width (spelling g) ≡ Some g
unfolding linked
linked_spelled class width g h c k = let e = whole_spelled g h in rw (e, c, k) refl

-- ---- the row is ready

pub record Ready (w : World) (c s : ℕ) : Type 0 where
  pub serial : (w.lanes c).serial ≡ s
  pub step : (w.lanes c).step ≡ 2
  pub row_serial : (w.lanes c).helper.serial ≡ s
  pub row_phase : (w.lanes c).helper.phase ≡ token.Deposited
  pub first : 1 ≤ s

pub is_ready : (w : World) (p : ℕ → Stage) (c s : ℕ) → Coherent w p → w.foreign c ≡ false
    → slice_get w.commands w.carried ≡ Some (line c s) → Ready w c s
is_ready w p c s ok hon e =
    let now = (ok.lines w.carried (line c s) e hon).out (omega arith) in
    let fits : Fits (w.lanes c) Opening = subst (Fits (w.lanes c)) now.stage (ok.fits c hon) in
    record {
      serial = now.serial;
      step = fits.step ∙ two (w.lanes c).opening now.opening;
      row_serial = fits.helper_serial ∙ now.serial;
      row_phase = fits.helper_phase;
      first = let same = now.serial in let first = fits.numbered in omega (arith, same, first);
    }
  where
    two : (x : Command) → x ≡ Registers → step_at x Opening ≡ 2
    two x e = refl

-- what it holds
deposited_key : (b : Book) (c s address : ℕ) (held : DepositBody) → b.foreign c ≡ false
    → request_of b c s ≡ Some (Register address)
    → deposit_at b c s ≡ Some (frame.Deposit held) → held ≡ deposit.Register (key_at b 1 c s)
unfolding deposit_at deposit_of
deposited_key b c s address held hon q e =
    let k : if_asked (deposit_of (client_at b c s)) (Some (Register address)) ≡ Some (frame.Deposit held) = rw q at e in
    rw hon (cc k)

stage_held : (b : Book) (c s address : ℕ) (r : Row) (x : token.Row) → HelperRow b c r x → x.serial ≡ s
    → x.phase ≡ token.Deposited → b.foreign c ≡ false
    → request_of b c s ≡ Some (Register address)
    → (r.serial ≡ s) × (r.stage ≡ helper.Deposited (deposit.Register (key_at b 1 c s)))
stage_held b c s address r x h serial phase hon q =
    let same : r.serial ≡ s = ap (λ y. y.serial) h.bare ∙ serial in
    (same, at_stage r.stage (subst (λ n. HelperHolds b c n r.stage) same h.holds) (ap (λ y. y.phase) h.bare ∙ phase))
  where
    at_stage : (stage : helper.Stage) → HelperHolds b c s stage → bare_phase stage ≡ token.Deposited
        → stage ≡ helper.Deposited (deposit.Register (key_at b 1 c s))
    at_stage (helper.Deposited held) k e = ap helper.Deposited (deposited_key b c s address held hon q k)
    at_stage helper.Idle k e = absurd (cc e)
    at_stage (helper.Begun write) k e = absurd (cc e)
    at_stage (helper.Proved write share) k e = absurd (cc e)
    at_stage (helper.Audited write closing) k e = absurd (cc e)
    at_stage (helper.Done want) k e = absurd (cc e)

-- ---- the command is carried out

carries_out_is : (h : Server) (g : PlainFrame) (address : ℕ) (key : List ℕ)
    → g.body ≡ frame.LinkRegister address → g.lane < h.settings.lanes
    → (row_at h g.lane).serial ≡ g.serial → (row_at h g.lane).stage ≡ helper.Deposited (deposit.Register key)
    → steps.carries_out h g ≡ steps.register_at h g address key (place_of address h.boxes)
unfolding steps.carries_out steps.command steps.register
carries_out_is h g address key body low serial stage =
    let there : nat_le h.settings.lanes g.lane ≡ false = false_from_ne_true _ (λ t. let l = leb-true _ _ t in omega (arith, low, l)) in
    let same : nat_eq (row_at h g.lane).serial g.serial ≡ true = eq-eqb _ _ serial in
    rw (there, same, body, stage) refl

pub result_is : (b : Book) (i c s address : ℕ) → request_of b c s ≡ Some (Register address)
    → result_at b 1 i (line c s) ≡ register_result b.settings.boxes (shares_at b 1 i) (box_of address (shares_at b 1 i).boxes)
unfolding result_at result_of
result_is b i c s address q = rw q refl

reply_is : (b : Book) (i c s : ℕ) (body : PlainBody) (result : Result) → result_at b 1 i (line c s) ≡ result
    → body ≡ reply_with b i (line c s) result
    → frame_of b (token.Replied (i + 1) (line c s)) ≡ Some (frame_with c s (i + 1) body)
unfolding frame_of
reply_is b i c s body result e k =
    let same : i + 1 - 1 ≡ i = omega arith in
    rw same (ap (λ x. Some (frame_with c s (i + 1) x)) (ap (reply_with b i (line c s)) e ∙ sym k))

line_is : (b : Book) (i c s address : ℕ) (body : PlainBody) (result : Result)
    → request_of b c s ≡ Some (Register address) → result_at b 1 i (line c s) ≡ result
    → body ≡ reply_with b i (line c s) result
    → frames.journal_line (frame_with c s (i + 1) (frame.LinkRegister address)) (frame_with c s (i + 1) body) ≡ line_value b i (line c s)
unfolding command_body
line_is b i c s address body result q e k =
    let same : body ≡ reply_body b i (line c s) = k ∙ ap (reply_with b i (line c s)) (sym e) in
    rw (q, same) refl

pub entry_is : (b : Book) (w : World) (x : Line) (does : Operation) → length w.journal ≡ w.carried
    → w.journal ++ entry x does ∷ [] ≡ take (w.carried + 1) b.entries
    → slice_get b.entries w.carried ≡ Some (entry x does)
entry_is b w x does count e =
    let last : slice_get (w.journal ++ entry x does ∷ []) w.carried ≡ Some (entry x does) = subst (λ n. slice_get (w.journal ++ entry x does ∷ []) n ≡ Some (entry x does)) count (get_end w.journal (entry x does)) in
    (get_taken b.entries (w.carried + 1) w.carried (entry x does) (ap (λ es. slice_get es w.carried) (sym e) ∙ last)).1

module _ (b : Book) (f : FrameWorld) (w : World) (p : ℕ → Stage) (c s address : ℕ)
    (sound : Sound b) (within : Within b (carries w (line c s) (carried_row (line c s)) (AddBox address))) (ok : Coherent w p) (h : Follows b f w) (hon : b.foreign c ≡ false) (low : c < b.settings.lanes)
    (next : slice_get w.commands w.carried ≡ Some (line c s)) (q : request_of b c s ≡ Some (Register address)) where
  abbrev pub command : PlainFrame
  command = frame_with c s (w.carried + 1) (frame.LinkRegister address)

  ready : Ready w c s
  ready = is_ready w p c s ok (let e = ap (λ foreign. foreign c) h.foreign in e ∙ hon) next

  count : length w.journal ≡ w.carried
  count =
      let lines = sym (lines_length w.journal) ∙ ap length ok.journal ∙ length-take w.carried w.commands in
      let k = ok.carried in
      omega (arith, lines, k)

  number_small : w.carried + 1 < 2 ^ 64
  number_small =
      let t = ap length within.commands ∙ length-take (length w.commands) b.commands in
      let n = sound.numbers in
      let k = ok.carried in
      omega (arith, t, n, k)

  pub next_follows : Follows b (frames.to_helper_link f (Some command) (steps.arrives f.helper command)) (carries w (line c s) (carried_row (line c s)) (AddBox address))
  unfolding steps.arrives after_line
  next_follows =
      let hh = h.helper in
      let server = f.helper.server in
      let i = w.carried in
      let key = key_at b 1 c s in
      let t = shares_at b 1 i in
      let found = box_of address t.boxes in
      let limits = sound.limits in
      let size : b.settings.boxes ≤ 4096 = limits.1.1 in
      let lanes : b.settings.lanes ≤ 256 = limits.2.1 in
      let hr = row_of b f w c h hon low in
      let held = stage_held b c s address (row_at server c) (w.lanes c).helper hr ready.row_serial ready.row_phase hon q in
      let small = hr.small in
      let serial = held.0 in
      let first = ready.first in
      let made = register_made b server c s (i + 1) address i key t hh.boxes (ap (λ x. x.boxes) hh.settings) (ap (λ x. x.width) hh.settings) size (shares_few b 1 i) refl
      (omega (arith, low, lanes)) (omega (arith, small, serial)) (omega arith) number_small found
      (λ k e. let below = (position-Some (λ other. nat_eq other address) (addresses t.boxes) k 0 e).0 in let m = length-map t.boxes (λ m. m.address) in omega (arith, below, m)) in
      let there : c < server.settings.lanes = let e = ap (λ x. x.lanes) hh.settings in omega (arith, e, low) in
      let out : steps.carries_out server command ≡ effect _ made.body =
      carries_out_is server command address key refl there held.0 held.1
      ∙ ap (steps.register_at server command address key) (ap (place_of address) hh.boxes ∙ place_same b 1 address t.boxes)
      ∙ made.is in
      let number : nat_eq (i + 1) (f.helper.carried + 1) ≡ true = eq-eqb _ _ (ap (λ n. n + 1) (sym hh.number)) in
      let e = entry_is b w (line c s) (AddBox address) count (within.journal ∙ ap (λ n. take n b.entries) (length-append w.journal (entry (line c s) (AddBox address) ∷ []) ∙ ap (λ n. n + 1) count)) in
      let result = result_is b i c s address q in
      rw (number, out)
      (carried_follows b f w (line c s) (AddBox address) command _ made.boxes server.draws made.body h hon low (limits.3.0) count e
      (record { bare = refl; small = omega (arith, small, serial); want = λ pos. sym (ap wants q); holds = tt })
      (made.boxes_is ∙ ap (λ u. map (λ m. box_at b 1 m) u.boxes) (sym (shares_next b 1 i (entry (line c s) (AddBox address)) e)))
      (hh.draws ∙ draws_same w.journal (entry (line c s) (AddBox address)) refl)
      (reply_is b i c s made.body _ result made.body_is)
      (made.frame first)
      (line_is b i c s address made.body _ q result made.body_is))
