-- The begin of a client's write at the helper, in both runs.
use Rattle.std.proofs.Common.{◌≡◌, ℕ, ◌<◌, ◌≤◌, ◌^◌, ◌+◌, true, List, [], ◌∷◌, ◌++◌, length, take, map, Some, slice_get, refl, sym, ap, ◌∙◌, subst, arith}
use Rattle.std.proofs.lemmas.Bool.{eq-eqb}
use Rattle.std.proofs.lemmas.List.{length-map}
use Rattle.frame_rules.specs.declared.frame.DepositBody.TheVariants as deposit
use Rattle.frame_rules.specs.Frames as frame
use Rattle.frame_rules.specs.Frames.{PlainFrame}
use Rattle.frame_rules.specs.Whole.{has_width}
use Rattle.dpf_rules.specs.Expansion.{draw32}
use Rattle.audit_rules.specs.Values.{Write as Begun_write, ckey_of}
use Rattle.mailbox_rules.specs.Requests.{Write, Begins, entry, BeginWrite, Line}
use Rattle.mailbox_rules.specs.Tables.{Began, Table, after_line, result_of}
use Rattle.token_rules.specs.Tokens.{World}
use Rattle.token_rules.specs.Tokens as token
use Rattle.token_rules.specs.Run.{line_of, asked_operation}
use Rattle.token_rules.specs.Laws.{IsSent}
use Rattle.step_rules.specs.Helper as helper
use Rattle.step_rules.specs.Helper.{Server, row_at}
use Rattle.step_rules.specs.HelperCommands as steps
use Rattle.step_rules.specs.HelperCommands.{Effect, effect}
use Rattle.run_rules.specs.Letters.{FrameWorld}
use Rattle.run_rules.specs.Book.{Book, request_of, wants, place, begun_in, leaders_draw, helpers_draw, table_at}
use Rattle.run_rules.specs.Values.{root_at, part_at, ckey_at, counted_at, write_at, shares_at, boxes_at, box_at}
use Rattle.run_rules.specs.Frames.{command_body, reply_body, reply_with, result_at}
use Rattle.run_rules.specs.Follows.{Within, Follows}
use Rattle.run_rules.specs.Known.{Known}
use Rattle.run_rules.specs.Laws.{ComesFollows}
use Rattle.run_rules.proofs.Places.{place_is}
use Rattle.run_rules.proofs.HelperCommands.{left_by, draws_more}
use Rattle.run_rules.proofs.HelperRegisters.{shares_next, shares_few}
use Rattle.run_rules.proofs.WriteLeaderRanges.{WriteIs, part_of_length, helpers_draw_length}
use Rattle.run_rules.proofs.WriteLeaderCounts.{shares_length}
use Rattle.run_rules.proofs.WriteHelperCarried.{ordered, Made, Ready, ready_effect, journal_length, ready_holds}
use Rattle.run_rules.proofs.WriteHelperWrites.{is_write, does_begin, deposited_root}
use Rattle.run_rules.proofs.WriteHelperOrders.{honest_ordered}

abbrev line : ℕ → ℕ → Line
line c s = line_of c s Begins

-- ---- what the helper's step makes

pub begin_effect : (b : Book) (h : Server) (c s i root : ℕ) (stage : helper.Stage) → stage ≡ helper.Deposited (deposit.Write root)
    → steps.command h (ordered b i (line c s)) (command_body b i (line c s) Begins) stage
    ≡ effect (left_by h c (helper.row s (helper.Begun (steps.begun h (leaders_draw b i) (part_at b c s) root))) h.boxes (h.draws + 1))
    (frame.LinkBegun (length h.boxes) (steps.draw h))
unfolding command_body steps.command steps.begin
begin_effect b h c s i root stage e = rw e refl

-- the write that it keeps is that of the history
pub begun_is : (b : Book) (h : Server) (c s i : ℕ) → place b c s Begins ≡ i → length h.boxes ≡ length (counted_at b c s)
    → steps.draw h ≡ helpers_draw b i
    → steps.begun h (leaders_draw b i) (part_at b c s) (root_at b 1 c s) ≡ write_at b 1 c s
unfolding write_at ckey_at
begun_is b h c s i at count draw =
    ap (λ n. made n (ckey_of (leaders_draw b i) (steps.draw h))) count
    ∙ ap (λ d. made (length (counted_at b c s)) (ckey_of (leaders_draw b i) d)) draw
    ∙ ap (λ n. made (length (counted_at b c s)) (ckey_of (leaders_draw b n) (helpers_draw b n))) (sym at)
  where
    made : ℕ → List ℕ → Begun_write
    made count ckey = record { root = root_at b 1 c s; part = part_at b c s; count = count; ckey = ckey }

-- ---- what comes of it in the table of shares

begin_result : (b : Book) (i c s target : ℕ) (message : List ℕ) → request_of b c s ≡ Some (Write target message)
    → result_at b 1 i (line c s) ≡ Began (length (shares_at b 1 i).boxes)
unfolding result_at result_of
begin_result b i c s target message q = rw q refl

begin_reply : (b : Book) (i c s target : ℕ) (message : List ℕ) → request_of b c s ≡ Some (Write target message)
    → reply_body b i (line c s) ≡ frame.LinkBegun (length (shares_at b 1 i).boxes) (helpers_draw b i)
unfolding reply_with
begin_reply b i c s target message q = ap (reply_with b i (line c s)) (begin_result b i c s target message q)

pub begin_boxes : (b : Book) (i c s : ℕ) → slice_get b.entries i ≡ Some (entry (line c s) BeginWrite)
    → boxes_at b 1 i ≡ boxes_at b 1 (i + 1)
unfolding after_line
begin_boxes b i c s e = ap (λ (t : Table). map (λ m. box_at b 1 m) t.boxes) (sym (shares_next b 1 i (entry (line c s) BeginWrite) e))

-- its frame has the system's width
begin_wide : (b : Book) (i c s : ℕ) → WriteIs b c s
    → has_width b.settings.width (command_body b i (line c s) Begins) ≡ true
unfolding command_body
begin_wide b i c s write = eq-eqb _ _ (part_of_length b c s write)

begin_does : (b : Book) (w : World) (c s : ℕ) → WriteIs b c s → Within b w → IsSent w (line c s)
    → asked_operation w (line c s) ≡ BeginWrite
begin_does b w c s write within sent = does_begin b w c s (is_write b w (line c s) within sent refl)

-- ---- all of it

module _ (b : Book) (f : FrameWorld) (v w : World) (c s : ℕ) (write : WriteIs b c s) (known : Known b v w) (h : Follows b f w) (low : c < b.settings.lanes)
    (due : slice_get w.commands w.carried ≡ Some (line c s)) (ready : Ready b f w (line c s))
    (entered : slice_get b.entries w.carried ≡ Some (entry (line c s) BeginWrite)) where
  abbrev i : ℕ
  i = w.carried

  abbrev server : Server
  server = f.helper.server

  at : place b c s Begins ≡ i
  at = place_is b w known.lawful.stages c s i Begins known.lawful.coherent known.within (ap (λ foreign. foreign c) h.foreign ∙ write.honest) due

  boxes : length server.boxes ≡ length (shares_at b 1 i).boxes
  boxes = ap length h.helper.boxes ∙ length-map (shares_at b 1 i).boxes (λ m. box_at b 1 m)

  count : length server.boxes ≡ length (counted_at b c s)
  count = boxes ∙ shares_length b 1 i ∙ ap (λ n. length (counted n)) (sym at)
    where
      counted : ℕ → List ℕ
      counted n = map (λ m. m.address) (table_at b n).boxes

  drawn : server.draws ≡ begun_in (take i b.entries)
  drawn =
      h.helper.draws ∙ ap begun_in known.within.journal
      ∙ ap (λ n. begun_in (take n b.entries)) (journal_length w known.lawful)

  draw : steps.draw server ≡ helpers_draw b i
  draw = ap (λ d. draw32 d server.draws) h.helper.seed ∙ ap (draw32 _) drawn

  count_small : length server.boxes < 2 ^ 32
  count_small =
      let few = shares_few b 1 i in
      let same = boxes in
      let size : b.settings.boxes ≤ 4096 = known.sound.limits.1.1 in
      omega (arith, same, few, size)

  stage : (row_at server c).stage ≡ helper.Deposited (deposit.Write (root_at b 1 c s))
  stage = deposited_root b c s write.target write.message (row_at server c).stage write.honest write.is (ready_holds b f w (line c s) ready) ready.phase

  begin_made : Made b server (line c s) i (w.journal ++ entry (line c s) BeginWrite ∷ []) (steps.carries_out server (ordered b i (line c s)))
  begin_made = record {
    stage = helper.Begun (write_at b 1 c s);
    boxes = server.boxes;
    draws = server.draws + 1;
    body = frame.LinkBegun (length server.boxes) (steps.draw server);
    is =
        ready_effect b f w (line c s) ready
        ∙ begin_effect b server c s i (root_at b 1 c s) (row_at server c).stage stage
        ∙ ap (λ w. effect (left_by server c (helper.row s (helper.Begun w)) server.boxes (server.draws + 1)) (frame.LinkBegun (length server.boxes) (steps.draw server)))
        (begun_is b server c s i at count draw);
    phase = refl;
    want = sym (ap wants write.is);
    holds = refl;
    boxes_is = h.helper.boxes ∙ begin_boxes b i c s entered;
    draws_is = ap (λ n. n + 1) h.helper.draws ∙ sym (draws_more w.journal (entry (line c s) BeginWrite));
    body_is =
        ap (λ n. frame.LinkBegun n (steps.draw server)) boxes ∙ ap (frame.LinkBegun (length (shares_at b 1 i).boxes)) draw
        ∙ sym (begin_reply b i c s write.target write.message write.is);
    is_frame = record {
      lane = ready.lane;
      serial = ready.small;
      addressed = ready.first;
      link = ready.number;
      linked = omega arith;
      body = (count_small, ap length draw ∙ helpers_draw_length b i);
    };
  }

-- a begin's frame is read, and the begin carried out
pub begin_ordered : (b : Book) (n c s : ℕ) → WriteIs b c s → ComesFollows b (token.Ordered n (line c s))
begin_ordered b n c s write = honest_ordered b n (line c s) write.honest (record {
  wide = λ v w i known sent. begin_wide b i c s write;
  made = λ f v w known h low due ready entered.
      let is = begin_does b w c s write known.within ready.sent in
      subst (λ does. Made b f.helper.server (line c s) w.carried (w.journal ++ entry (line c s) does ∷ []) (steps.carries_out f.helper.server (ordered b w.carried (line c s)))) (sym is)
      (begin_made b f v w c s write known h low due ready (entered ∙ ap (λ does. Some (entry (line c s) does)) is));
})
