-- What any command of a client's lane, carried out, makes of the helper, and that this keeps the relation.
use Rattle.std.proofs.Common.{◌≡◌, ℕ, ◌<◌, ◌≤◌, ◌^◌, ◌+◌, ◌-◌, nat_eq, nat_le, true, false, List, [], ◌∷◌, ◌++◌, length, take, Some, slice_get, refl, sym, ap, ◌∙◌, subst, arith, length-append}
use Rattle.std.proofs.lemmas.Bool.{eq-eqb, leb-true, false_from_ne_true}
use Rattle.std.proofs.lemmas.List.{length-take}
use Rattle.frame_rules.specs.Frames.{PlainFrame, PlainBody}
use Rattle.frame_rules.specs.Spelling.{IsFrame}
use Rattle.mailbox_rules.specs.Requests.{Line, Entry, entry, Operation}
use Rattle.token_rules.specs.Tokens as token
use Rattle.token_rules.specs.Tokens.{World, Oracle}
use Rattle.token_rules.specs.Rows.{carried_phase, carried_row}
use Rattle.token_rules.specs.Run.{carries}
use Rattle.token_rules.specs.Laws.{IsSent, awaits}
use Rattle.token_rules.specs.Lawful.{Lawful}
use Rattle.step_rules.specs.Boxes.{Box}
use Rattle.step_rules.specs.Helper as helper
use Rattle.step_rules.specs.Helper.{Helper, Server, Row, row_at, want_of}
use Rattle.step_rules.specs.HelperCommands as steps
use Rattle.step_rules.specs.HelperCommands.{Effect, effect}
use Rattle.step_tokens.specs.HelperRows.{bare_phase}
use Rattle.run_rules.specs.Letters.{FrameWorld}
use Rattle.run_rules.specs.Run as frames
use Rattle.run_rules.specs.Book.{Book, request_of, wants, begun_in}
use Rattle.run_rules.specs.Values.{boxes_at}
use Rattle.run_rules.specs.Frames.{frame_with, frame_of, command_body, reply_body, line_value}
use Rattle.run_rules.specs.Known.{Known}
use Rattle.run_rules.specs.Follows.{HelperHolds, HelperRow, Within, Sound, Follows}
use Rattle.run_rules.proofs.HelperRuns.{row_of}
use Rattle.run_rules.proofs.HelperCommands.{left_by, carried_follows, lines_length}
use Rattle.run_rules.proofs.HelperRegistered.{entry_is}

-- the frame of a client's command
abbrev pub ordered : Book → ℕ → Line → PlainFrame
ordered b i x = frame_with x.lane x.serial (i + 1) (command_body b i x x.command)

-- A command that is carried out as the one at place i made this: the lane's row, the boxes, the draws and the reply.
pub record Made (b : Book) (h : Server) (x : Line) (i : ℕ) (entries : List Entry) (e : Effect) : Type 0 where
  pub stage : helper.Stage
  pub boxes : List Box
  pub draws : ℕ
  pub body : PlainBody
  pub is : e ≡ effect (left_by h x.lane (helper.row x.serial stage) boxes draws) body
  pub phase : bare_phase stage ≡ carried_phase x.command
  pub want : want_of stage ≡ wants (request_of b x.lane x.serial)
  pub holds : HelperHolds b x.lane x.serial stage
  pub boxes_is : boxes ≡ boxes_at b 1 (i + 1)
  pub draws_is : draws ≡ begun_in entries
  pub body_is : body ≡ reply_body b i x
  pub is_frame : IsFrame (frame_with x.lane x.serial (i + 1) body)

-- ---- what is carried out

-- a command finds its lane's row
pub carries_out_is : (h : Server) (g : PlainFrame) → g.lane < h.settings.lanes
    → (row_at h g.lane).serial ≡ g.serial
    → steps.carries_out h g ≡ steps.command h g g.body (row_at h g.lane).stage
unfolding steps.carries_out
carries_out_is h g low serial =
    let there : nat_le h.settings.lanes g.lane ≡ false = false_from_ne_true _ (λ t. let l = leb-true _ _ t in omega (arith, low, l)) in
    let same : nat_eq (row_at h g.lane).serial g.serial ≡ true = eq-eqb _ _ serial in
    rw (there, same) refl

pub journal_length : (w : World) → Lawful w → length w.journal ≡ w.carried
journal_length w l =
    let lines = sym (lines_length w.journal) ∙ ap length l.coherent.journal ∙ length-take w.carried w.commands in
    let k = l.coherent.carried in
    omega (arith, lines, k)

-- the row that it finds, ready for it
pub record Ready (b : Book) (f : FrameWorld) (w : World) (x : Line) : Type 0 where
  pub row : HelperRow b x.lane (row_at f.helper.server x.lane) (w.lanes x.lane).helper
  pub serial : (row_at f.helper.server x.lane).serial ≡ x.serial
  pub phase : bare_phase (row_at f.helper.server x.lane).stage ≡ awaits x.command
  pub sent : IsSent w x
  pub there : x.lane < f.helper.server.settings.lanes
  -- what its frame and the reply are spelled with
  pub lane : x.lane < 2 ^ 16
  pub first : 1 ≤ x.serial
  pub small : x.serial < 2 ^ 32
  pub number : w.carried + 1 < 2 ^ 64

pub is_ready : (b : Book) (f : FrameWorld) (v w : World) (x : Line) → Known b v w → Follows b f w
    → b.foreign x.lane ≡ false → x.lane < b.settings.lanes → slice_get w.commands w.carried ≡ Some x
    → Ready b f w x
is_ready b f v w x known h hon low next =
    let l = known.lawful in
    let lanes : b.settings.lanes ≤ 256 = known.sound.limits.2.1 in
    let issued = ap length known.within.commands ∙ length-take (length w.commands) b.commands in
    let numbers = known.sound.numbers in
    let carried = l.coherent.carried in
    let honest : w.foreign x.lane ≡ false = ap (λ foreign. foreign x.lane) h.foreign ∙ hon in
    let at = l.ready w.carried x (omega arith) next honest in
    let sent = l.sent.lines w.carried x next honest in
    let row = row_of b f w x.lane h hon low in
    let serial = ap (λ y. y.serial) row.bare ∙ at.serial in
    let small = row.small in
    record {
      row = row;
      serial = serial;
      phase = ap (λ y. y.phase) row.bare ∙ at.phase;
      sent = sent;
      there = let same = ap (λ s. s.lanes) h.helper.settings in omega (arith, low, same);
      lane = omega (arith, low, lanes);
      first = sent.numbered;
      small = omega (arith, small, serial);
      number = omega (arith, numbers, issued, carried);
    }

-- what the row holds for it
pub ready_holds : (b : Book) (f : FrameWorld) (w : World) (x : Line) → Ready b f w x
    → HelperHolds b x.lane x.serial (row_at f.helper.server x.lane).stage
ready_holds b f w x r = subst (λ n. HelperHolds b x.lane n (row_at f.helper.server x.lane).stage) r.serial r.row.holds

-- so the command is carried out on what the row holds
pub ready_effect : (b : Book) (f : FrameWorld) (w : World) (x : Line) → Ready b f w x
    → steps.carries_out f.helper.server (ordered b w.carried x)
    ≡ steps.command f.helper.server (ordered b w.carried x) (command_body b w.carried x x.command) (row_at f.helper.server x.lane).stage
ready_effect b f w x r = carries_out_is f.helper.server (ordered b w.carried x) r.there r.serial

-- ---- from what was made to the relation

frame_made : (b : Book) (i : ℕ) (x : Line) (body : PlainBody) → body ≡ reply_body b i x
    → frame_of b (token.Replied (i + 1) x) ≡ Some (frame_with x.lane x.serial (i + 1) body)
unfolding frame_of
frame_made b i x body e =
    let same : i + 1 - 1 ≡ i = omega arith in
    rw same (ap (λ k. Some (frame_with x.lane x.serial (i + 1) k)) (sym e))

line_made : (b : Book) (i : ℕ) (x : Line) (body : PlainBody) → body ≡ reply_body b i x
    → frames.journal_line (ordered b i x) (frame_with x.lane x.serial (i + 1) body) ≡ line_value b i x
line_made b i x body e =
    ap (λ k. frames.journal_line (ordered b i x) (frame_with x.lane x.serial (i + 1) k)) e

module _ (b : Book) (f : FrameWorld) (w : World) (x : Line) (does : Operation)
    (sound : Sound b) (l : Lawful w) (h : Follows b f w) (hon : b.foreign x.lane ≡ false) (low : x.lane < b.settings.lanes)
    (ready : Ready b f w x) (entered : slice_get b.entries w.carried ≡ Some (entry x does)) where
  -- where the command's number is the next
  number : nat_eq (w.carried + 1) (f.helper.carried + 1) ≡ true
  number = eq-eqb _ _ (ap (λ n. n + 1) (sym h.helper.number))

  pub made_follows : Made b f.helper.server x w.carried (w.journal ++ entry x does ∷ []) (steps.carries_out f.helper.server (ordered b w.carried x))
      → Follows b (frames.to_helper_link f (Some (ordered b w.carried x)) (steps.arrives f.helper (ordered b w.carried x))) (carries w x (carried_row x) does)
  unfolding steps.arrives
  made_follows m =
      rw (number, m.is)
      (carried_follows b f w x does (ordered b w.carried x) (helper.row x.serial m.stage) m.boxes m.draws m.body h hon low (sound.limits.3.0) (journal_length w l) entered
      (record { bare = ap (token.row x.serial) m.phase; small = ready.small; want = λ pos. m.want; holds = m.holds })
      m.boxes_is m.draws_is (frame_made b w.carried x m.body m.body_is) m.is_frame (line_made b w.carried x m.body m.body_is))

-- the entry of the command in the history
pub entry_at : (b : Book) (w : World) (x : Line) (does : Operation) → Lawful w
    → Within b (carries w x (carried_row x) does) → slice_get b.entries w.carried ≡ Some (entry x does)
entry_at b w x does l within =
    let count = journal_length w l in
    entry_is b w x does count (within.journal ∙ ap (λ n. take n b.entries) (length-append w.journal (entry x does ∷ []) ∙ ap (λ n. n + 1) count))
