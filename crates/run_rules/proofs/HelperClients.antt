-- What a client's frame does at the helper, in both runs.
use Rattle.std.proofs.Common.{◌≡◌, ◌≢◌, ℕ, ◌<◌, false, List, [], ◌∷◌, length, slice_set, slice_index_or, refl, sym, ap, ◌∙◌, subst, inl, inr, arith}
use Rattle.std.proofs.lemmas.Bool.{cases_eq}
use Rattle.std.proofs.lemmas.List.{get_or-set_same, get_or-set_other, length-set}
use Rattle.frame_rules.specs.Frames.{PlainBody}
use Rattle.frame_rules.specs.Spelling.{spelling}
use Rattle.token_rules.specs.Tokens as token
use Rattle.token_rules.specs.Tokens.{World, Lane, put, Oracle}
use Rattle.token_rules.specs.Rows.{HelperSays, HelperStep}
use Rattle.token_rules.specs.Run.{at_helper, helper_tokens}
use Rattle.step_rules.specs.Helper.{Helper, Row, with_row, idle}
use Rattle.step_rules.specs.HelperClients.{RowTurn}
use Rattle.run_rules.specs.Letters.{letter, ToClient, FrameWorld}
use Rattle.run_rules.specs.Run as frames
use Rattle.run_rules.specs.Book.{Book}
use Rattle.run_rules.specs.Frames.{frame_with}
use Rattle.run_rules.specs.Follows.{Pools, HelperRow, HelperRowAt, HelperRows, Follows}
use Rattle.run_rules.proofs.Basics.{put_here, put_other, put_part, pools_append}
use Rattle.run_rules.proofs.Counts.{begun_set}

-- ---- the helper's rows with one changed

pub rows_set : (b : Book) (rows : List Row) (lanes new : ℕ → Lane) (c : ℕ) (r : Row) (x : token.Row)
    → length rows ≡ b.settings.lanes → c < b.settings.lanes
    → HelperRows b rows lanes → (new c).helper ≡ x → ((d : ℕ) → d ≢ c → (new d).helper ≡ (lanes d).helper)
    → HelperRowAt b c (b.foreign c) r x → HelperRows b (slice_set rows c r) new
rows_set b rows lanes new c r x count there h here others k d low = elim (cases_eq d c) [
  | inl s ↦
      let got : slice_index_or (slice_set rows c r) d idle ≡ r = ap (λ i. slice_index_or (slice_set rows c r) i idle) s ∙ get_or-set_same rows c r idle (omega (arith, count, there)) in
      let is : (new d).helper ≡ x = ap (λ i. (new i).helper) s ∙ here in
      rw (got, is) (subst (λ i. HelperRowAt b i (b.foreign i) r x) (sym s) k)
  | inr n ↦
      let got : slice_index_or (slice_set rows c r) d idle ≡ slice_index_or rows d idle = get_or-set_other rows c d r idle n in
      rw (got, others d n) (h d low)
]

-- ---- a frame of an honest lane changes its row and is answered

-- what is answered, and its token
abbrev pub Said : Book → ℕ → ℕ → PlainBody → HelperSays → Type 0
Said b c s body says =
    Pools b (helper_tokens c s says) (letter (ToClient c) (spelling (frame_with c s 0 body)) ∷ [])

abbrev pub with_turn : Helper → ℕ → RowTurn → Helper
with_turn h c t = record h { server = with_row h.server c t.row }

abbrev pub helper_said : FrameWorld → ℕ → ℕ → RowTurn → FrameWorld
helper_said f c s t =
    frames.posts (record f { helper = with_turn f.helper c t }) (letter (ToClient c) (spelling (frame_with c s 0 t.body)) ∷ [])

pub turn_follows : (b : Book) (f : FrameWorld) (w : World) (c s : ℕ) (t : RowTurn) (step : HelperStep)
    → Follows b f w → b.foreign c ≡ false → c < b.settings.lanes → HelperRow b c t.row step.row
    → Said b c s t.body step.says
    → Follows b (helper_said f c s t) (at_helper w c s step)
turn_follows b f w c s t step h hon low hr said =
    let lane : Lane = record (w.lanes c) { helper = step.row } in
    let new = put w.lanes c lane in
    let hh = h.helper in
    let la = h.leader in
    record {
      limit = h.limit;
      width = h.width;
      window = h.window;
      foreign = h.foreign;
      helper = record {
        settings = hh.settings;
        seed = hh.seed;
        count = length-set f.helper.server.rows c t.row ∙ hh.count;
        rows = rows_set b f.helper.server.rows w.lanes new c t.row step.row hh.count low hh.rows
            (ap (λ l. l.helper) (put_here w.lanes c lane)) (λ d n. ap (λ l. l.helper) (put_other w.lanes c lane d n))
            (subst (λ x. HelperRowAt b c x t.row step.row) (sym hon) hr);
        boxes = hh.boxes;
        draws = hh.draws;
        number = hh.number;
        kept = hh.kept;
        window = hh.window;
        most = hh.most;
        begun = begun_set b f.helper.server.rows w.carried c t.row hh.count low hh.begun (λ foreign. absurd (cc (sym hon ∙ foreign)));
      };
      leader = record {
        settings = la.settings;
        seed = la.seed;
        count = la.count;
        rows = λ d there. rw (put_part (λ l. l.leader) w.lanes c lane refl d) (la.rows d there);
        boxes = la.boxes;
        draws = la.draws;
        next = la.next;
        outstanding = la.outstanding;
        issued = la.issued;
        foreign = la.foreign;
        begun = la.begun;
        awaited = la.awaited;
      };
      clients = λ d. rw (put_part (λ l. l.step) w.lanes c lane refl d, put_part (λ l. l.serial) w.lanes c lane refl d) (h.clients d);
      waiting = h.waiting;
      told = h.told;
      pool = pools_append b w.pool (helper_tokens c s step.says) f.pool _ h.pool said;
      journal = h.journal;
      outcomes = h.outcomes;
    }
