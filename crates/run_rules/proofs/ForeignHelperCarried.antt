-- A command of a foreign lane, carried out by the helper, in both runs.
use Rattle.std.proofs.Common.{◌≡◌, ℕ, ◌<◌, ◌≤◌, ◌^◌, ◌+◌, ◌-◌, true, List, [], ◌∷◌, ◌++◌, length, map, Some, slice_get, refl, sym, ap, ◌∙◌, subst, inl, inr, arith}
use Rattle.std.proofs.lemmas.List.{length-set}
use Rattle.express_words.specs.declared.refusal.Refusal.{Refusal}
use Rattle.frame_rules.specs.Frames as frame
use Rattle.frame_rules.specs.Frames.{PlainFrame, PlainBody}
use Rattle.frame_rules.specs.Spelling.{spelling, IsFrame, IsReplyRefusal}
use Rattle.lane_table.specs.declared.row.Want.{Want}
use Rattle.mailbox_rules.specs.Requests.{Line, Entry, entry, lines_of, Operation, Refuse}
use Rattle.mailbox_rules.specs.Tables.{Table, after_line, result_of}
use Rattle.token_rules.specs.Tokens.{World, Lane, put}
use Rattle.token_rules.specs.Run.{acted, carries}
use Rattle.token_rules.proofs.Lists.{lines_more}
use Rattle.step_rules.specs.Boxes.{Box}
use Rattle.step_rules.specs.Helper as helper
use Rattle.step_rules.specs.Helper.{Server, Row, Stage, row}
use Rattle.step_rules.specs.HelperCommands as steps
use Rattle.step_rules.specs.HelperCommands.{Effect, effect, carried_with}
use Rattle.step_tokens.specs.HelperRows.{bare}
use Rattle.run_rules.specs.Letters.{FrameWorld, helper_seed}
use Rattle.run_rules.specs.Run as frames
use Rattle.run_rules.specs.Acts.{does_after}
use Rattle.run_rules.specs.Book.{Book, begun_in}
use Rattle.run_rules.specs.Values.{box_at, boxes_at, shares_at, writes_at}
use Rattle.run_rules.specs.Frames.{frame_with, reply_with}
use Rattle.run_rules.specs.Follows.{ForeignHolds, ForeignHelperRow, ForeignOrder, ForeignReply, HelperAnswers, IsForeignLine, brought_does, HasBegun, HaveBegun, HelperRows, SettlesBegun, Follows}
use Rattle.run_rules.proofs.Basics.{put_part, pools_append}
use Rattle.run_rules.proofs.Counts.{begun_more, has_begun_later}
use Rattle.run_rules.proofs.ForeignHelperTurns.{bare_at, rows_stay, rows_change}
use Rattle.run_rules.proofs.HelperCommands.{IsReply, few_replies, journal_more, kept_count, kept_more, left_by, lines_length, draws_same}
use Rattle.run_rules.proofs.HelperRegisters.{shares_next}

-- what the command left, as the token run with this operation
pub record After (b : Book) (w : World) (x : Line) (does : Operation) (e : Effect) : Type 0 where
  pub settings : e.server.settings ≡ b.settings
  pub seed : e.server.seed ≡ helper_seed b.seed
  pub count : length e.server.rows ≡ b.settings.lanes
  pub rows : HelperRows b e.server.rows (put w.lanes x.lane (record (w.lanes x.lane) { helper = bare_at e.server x.lane }))
  pub boxes : e.server.boxes ≡ boxes_at b 1 (w.carried + 1)
  pub draws : e.server.draws ≡ begun_in (w.journal ++ entry x does ∷ [])
  pub begun : HaveBegun b e.server.rows (w.carried + 1)
  pub reply : ForeignReply b w.carried x e.body
  pub settled : SettlesBegun b w.carried x does
  pub is_frame : IsFrame (frame_with x.lane x.serial (w.carried + 1) e.body)

-- where the operation is the history's entry
abbrev pub ForeignMade : Book → World → Line → PlainBody → Effect → Type 0
ForeignMade b w x order e =
    slice_get b.entries w.carried ≡ Some (entry x (does_after order e.body)) → After b w x (does_after order e.body) e

-- by what it does then
pub made_as : (b : Book) (w : World) (x : Line) (order : PlainBody) (does : Operation) (e : Effect) → does_after order e.body ≡ does
    → (slice_get b.entries w.carried ≡ Some (entry x does) → After b w x does e) → ForeignMade b w x order e
made_as b w x order does e is make entered =
    subst (λ d. After b w x d e) (sym is) (make (entered ∙ ap (λ d. Some (entry x d)) is))

-- both runs go on
pub foreign_carried : (b : Book) (f : FrameWorld) (w : World) (x : Line) (does : Operation) (order : PlainBody) (e : Effect)
    → Follows b f w → b.foreign x.lane ≡ true → 0 < b.settings.window → length w.journal ≡ w.carried
    → HelperAnswers b w.carried x order e.body → ForeignOrder b w.carried x order → After b w x does e
    → Follows b (frames.to_helper_link f (Some (frame_with x.lane x.serial (w.carried + 1) order)) (carried_with f.helper (frame_with x.lane x.serial (w.carried + 1) order) e))
    (carries (acted w) x (bare_at e.server x.lane) does)
unfolding frames.helper_answers
foreign_carried b f w x does order e h foreign room count answers ordered a =
    let c = x.lane in
    let lane : Lane = record (w.lanes c) { helper = bare_at e.server c } in
    let hh = h.helper in
    let la = h.leader in
    let reply = frame_with x.lane x.serial (w.carried + 1) e.body in
    let window = ap (λ s. s.window) hh.settings in
    let at : w.carried + 1 - 1 ≡ w.carried = omega arith in
    let one : IsReply b (w.carried + 1) x (spelling reply) =
    rw foreign (record { frame = reply; link = refl; lane = refl; serial = refl; body = subst (λ i. ForeignReply b i x e.body) (sym at) a.reply; spelled = record { at = refl; bytes = refl; is_frame = a.is_frame } }) in
    let lines : length (lines_of w.journal) ≡ w.carried = lines_length w.journal ∙ count in
    let few : length f.helper.replies ≤ w.carried = few_replies b w.carried (lines_of w.journal) f.helper.replies lines hh.kept in
    let kept = kept_more b b.settings.window w.carried (lines_of w.journal) x f.helper.replies (spelling reply) lines few hh.most room hh.kept one in
    let counts = kept_count b.settings.window w.carried f.helper.replies (spelling reply) hh.most room hh.window in
    let here : 0 + length w.journal ≡ w.carried = omega (arith, count) in
    let line : IsForeignLine b w.carried (entry x does) (frames.journal_line (frame_with x.lane x.serial (w.carried + 1) order) reply) =
    record { lane = refl; serial = refl; command = order; reply = e.body; ordered = ordered; replied = a.reply; answers = answers; value = refl; begun = a.settled } in
    record {
      limit = h.limit;
      width = h.width;
      window = h.window;
      foreign = h.foreign;
      helper = record {
        settings = a.settings;
        seed = a.seed;
        count = a.count;
        rows = a.rows;
        boxes = a.boxes;
        draws = a.draws;
        number = ap (λ n. n + 1) hh.number;
        kept = rw (window, lines_more w.journal (entry x does)) kept;
        window = rw window counts.0;
        most = rw window counts.1;
        begun = a.begun;
      };
      leader = record {
        settings = la.settings;
        seed = la.seed;
        count = la.count;
        rows = λ d there. rw (put_part (λ l. l.leader) w.lanes c lane refl d) (la.rows d there);
        boxes = la.boxes;
        draws = la.draws;
        next = la.next;
        outstanding = la.outstanding;
        issued = la.issued;
        foreign = la.foreign;
        begun = la.begun;
        awaited = la.awaited;
      };
      clients = λ d. rw (put_part (λ l. l.step) w.lanes c lane refl d, put_part (λ l. l.serial) w.lanes c lane refl d) (h.clients d);
      waiting = h.waiting;
      told = h.told;
      pool = pools_append b w.pool _ f.pool _ h.pool (one, tt);
      journal = journal_more b 0 w.journal f.journal (entry x does) _ h.journal (rw (foreign, here) line);
      outcomes = h.outcomes;
    }

-- ---- what is answered

-- the entry's result at the helper's shares
pub foreign_reply : (b : Book) (i : ℕ) (x : Line) (body : PlainBody) (does : Operation) → slice_get b.entries i ≡ Some (entry x does)
    → does ≡ brought_does b x
    → body ≡ reply_with b i x (result_of b.settings.boxes (writes_at b 1) (shares_at b 1 i) x does)
    → ForeignReply b i x body
foreign_reply b i x body does is brought k = record { does = does; entered = is; answers = inr (brought, k) }

-- or a refusal
pub refused_reply : (b : Book) (i : ℕ) (x : Line) (r : Refusal) → slice_get b.entries i ≡ Some (entry x Refuse)
    → ForeignReply b i x (frame.LinkReply (frame.ReplyRefused r))
refused_reply b i x r is = record { does = Refuse; entered = is; answers = inl (refl, (r, refl)) }

-- ---- an entry that does nothing

pub same_table : (b : Book) (i : ℕ) (x : Line) → slice_get b.entries i ≡ Some (entry x Refuse)
    → boxes_at b 1 i ≡ boxes_at b 1 (i + 1)
unfolding after_line
same_table b i x e = ap (λ (t : Table). map (λ m. box_at b 1 m) t.boxes) (sym (shares_next b 1 i (entry x Refuse) e))

pub same_draws : (es : List Entry) (x : Line) → begun_in es ≡ begun_in (es ++ entry x Refuse ∷ [])
same_draws es x = draws_same es (entry x Refuse) refl

-- ---- what of the frame and the helper every answer needs

pub record Orders (b : Book) (f : FrameWorld) (w : World) (x : Line) : Type 0 where
  pub follows : Follows b f w
  pub lane : x.lane < 2 ^ 16
  pub serial : x.serial < 2 ^ 32
  pub first : 1 ≤ x.serial
  pub number : w.carried + 1 < 2 ^ 64

pub refused_frame : (b : Book) (f : FrameWorld) (w : World) (x : Line) (r : Refusal) → Orders b f w x → IsReplyRefusal r
    → IsFrame (frame_with x.lane x.serial (w.carried + 1) (frame.LinkReply (frame.ReplyRefused r)))
refused_frame b f w x r k small =
    record { lane = k.lane; serial = k.serial; addressed = k.first; link = k.number; linked = omega arith; body = small }

-- nothing changes, and the command is refused
pub refused_made : (b : Book) (f : FrameWorld) (w : World) (x : Line) (order : PlainBody) (r : Refusal) → Orders b f w x → IsReplyRefusal r
    → ForeignMade b w x order (steps.refuses f.helper.server r)
refused_made b f w x order r k small entered =
    let hh = k.follows.helper in
    record {
      settings = hh.settings;
      seed = hh.seed;
      count = hh.count;
      rows = rows_stay b f.helper.server w.lanes x.lane hh.rows;
      boxes = hh.boxes ∙ same_table b w.carried x entered;
      draws = hh.draws ∙ same_draws w.journal x;
      begun = λ d low foreign. has_begun_later b w.carried d _ _ (entry x Refuse) entered (λ never. never) (hh.begun d low foreign);
      reply = refused_reply b w.carried x r entered;
      settled = tt;
      is_frame = refused_frame b f w x r k small;
    }

-- ---- the lane's row changes

pub row_after : (b : Book) (f : FrameWorld) (w : World) (x : Line) (stage : Stage) (does : Operation) (boxes : List Box) (draws : ℕ) (body : PlainBody)
    → Follows b f w → b.foreign x.lane ≡ true → x.lane < b.settings.lanes → x.serial < 2 ^ 32
    → slice_get b.entries w.carried ≡ Some (entry x does)
    → ForeignHolds b x.lane x.serial stage → HasBegun b (w.carried + 1) x.lane x.serial stage
    → boxes ≡ boxes_at b 1 (w.carried + 1) → draws ≡ begun_in (w.journal ++ entry x does ∷ [])
    → ForeignReply b w.carried x body → SettlesBegun b w.carried x does
    → IsFrame (frame_with x.lane x.serial (w.carried + 1) body) → After b w x does (effect (left_by f.helper.server x.lane (row x.serial stage) boxes draws) body)
row_after b f w x stage does boxes draws body h foreign low small entered holds begun boxed drawn reply settled is_frame =
    let hh = h.helper in
    let r : Row = row x.serial stage in
    let hr : ForeignHelperRow b x.lane r (bare r) = record { bare = refl; small = small; holds = holds } in
    record {
      settings = hh.settings;
      seed = hh.seed;
      count = length-set f.helper.server.rows x.lane r ∙ hh.count;
      rows = rows_change b f.helper.server w.lanes x.lane r hh.count low hh.rows (rw foreign hr);
      boxes = boxed;
      draws = drawn;
      begun = begun_more b f.helper.server.rows w.carried r (entry x does) hh.count low entered hh.begun (λ e. begun);
      reply = reply;
      settled = settled;
      is_frame = is_frame;
    }

-- the request is done with, and the command refused
pub done_made : (b : Book) (f : FrameWorld) (w : World) (x : Line) (order : PlainBody) (g : PlainFrame) (want : Want) (r : Refusal) → Orders b f w x
    → b.foreign x.lane ≡ true → x.lane < b.settings.lanes → g.lane ≡ x.lane → g.serial ≡ x.serial → IsReplyRefusal r
    → ForeignMade b w x order (steps.refuses (steps.done f.helper.server g want) r)
done_made b f w x order g want r k foreign low lane serial small =
    let hh = k.follows.helper in
    subst (λ c. ForeignMade b w x order (steps.refuses (helper.with_row f.helper.server c (row g.serial (helper.Done want))) r)) (sym lane)
    (subst (λ s. ForeignMade b w x order (steps.refuses (helper.with_row f.helper.server x.lane (row s (helper.Done want))) r)) (sym serial)
    (λ entered. row_after b f w x (helper.Done want) Refuse f.helper.server.boxes f.helper.server.draws (frame.LinkReply (frame.ReplyRefused r))
    k.follows foreign low k.serial entered tt tt
    (hh.boxes ∙ same_table b w.carried x entered) (hh.draws ∙ same_draws w.journal x) (refused_reply b w.carried x r entered) tt (refused_frame b f w x r k small)))
