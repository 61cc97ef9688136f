-- Bytes from outside come to the helper, in both runs: the act that it takes is found from its state and the bytes.
use Rattle.std.proofs.Common.{◌≡◌, ◌≢◌, ℕ, ◌<◌, ◌≤◌, ◌^◌, ◌⊎◌, cond, nat_eq, nat_lt, true, false, Bool, List, [], ◌∷◌, ◌++◌, length, refl, sym, ap, ◌∙◌, subst, inl, inr, arith, slice_set}
use Rattle.std.proofs.lemmas.Bool.{cases_eq, eq-eqb, eqb-true, ltb-false}
use Rattle.std.proofs.lemmas.List.{get_or-set_same, length-set}
use Rattle.express_words.specs.declared.audit.ProofShare.{ProofShare}
use Rattle.express_words.specs.declared.refusal.Refusal.{Refusal}
use Rattle.express_words.specs.declared.refusal.Refusal.TheVariants as refusal
use Rattle.frame_rules.specs.declared.frame.DepositBody.{DepositBody}
use Rattle.frame_rules.specs.Frames as frame
use Rattle.frame_rules.specs.Frames.{PlainFrame, PlainBody}
use Rattle.frame_rules.specs.Spelling.{spelling, IsFrame}
use Rattle.lane_table.specs.Gates.{opening_gate, closing_gate, same_want}
use Rattle.lane_table.specs.declared.row.Want.TheVariants.{Write}
use Rattle.lane_table.specs.declared.gate.Gate.TheVariants.{New, Same, Stale, Phase}
use Rattle.token_rules.specs.Tokens as token
use Rattle.token_rules.specs.Tokens.{World, Lane, Token, Oracle, Act, no_act, put}
use Rattle.step_rules.specs.Helper as helper
use Rattle.step_rules.specs.Helper.{Helper, Server, Row, Stage, Idle, Deposited, Begun, Proved, Audited, Done, row, row_at, with_row, want_in, want_of, phase_of}
use Rattle.step_rules.specs.HelperClients as steps
use Rattle.step_rules.specs.HelperClients.{RowTurn, deposit_row, proof_row}
use Rattle.step_tokens.specs.HelperRows.{bare}
use Rattle.run_rules.specs.Letters.{Letter, letter, ToClient, FrameWorld, helper_seed}
use Rattle.run_rules.specs.Run as frames
use Rattle.run_rules.specs.Book.{Book, begun_in}
use Rattle.run_rules.specs.Values.{share_at, boxes_at}
use Rattle.run_rules.specs.Frames.{frame_with}
use Rattle.run_rules.specs.Follows.{Pools, OfNoFrame, ForeignHolds, ForeignHelperRow, HelperRowAt, HelperRows, HasBegun, HaveBegun, Follows}
use Rattle.run_rules.proofs.Basics.{put_here, put_other, put_part, pools_append}
use Rattle.run_rules.proofs.HelperClients.{rows_set}
use Rattle.run_rules.proofs.Counts.{begun_set}

-- ---- the lane's row in the token run is what the server's row is without its content

row_bare : (b : Book) (c : ℕ) (t : Bool) (r : Row) (x : token.Row) → HelperRowAt b c t r x → HelperRowAt b c t r (bare r)
row_bare b c true r x h = record { bare = refl; small = h.small; holds = h.holds }
row_bare b c false r x h = record { bare = refl; small = h.small; want = h.want; holds = h.holds }

-- of a lane
abbrev pub bare_at : Server → ℕ → token.Row
bare_at h c = bare (row_at h c)

-- no row changed
pub rows_stay : (b : Book) (h : Server) (lanes : ℕ → Lane) (c : ℕ) → HelperRows b h.rows lanes
    → HelperRows b h.rows (put lanes c (record (lanes c) { helper = bare_at h c }))
rows_stay b h lanes c rows d low = elim (cases_eq d c) [
  | inl s ↦
      let lane : Lane = record (lanes c) { helper = bare_at h c } in
      let is : (put lanes c lane d).helper ≡ bare_at h d = ap (λ l. l.helper) (ap (put lanes c lane) s ∙ put_here lanes c lane) ∙ ap (bare_at h) (sym s) in
      rw is (row_bare b d (b.foreign d) (row_at h d) (lanes d).helper (rows d low))
  | inr n ↦ let other = ap (λ l. l.helper) (put_other lanes c (record (lanes c) { helper = bare_at h c }) d n) in rw other (rows d low)
]

-- one row changed
pub rows_change : (b : Book) (h : Server) (lanes : ℕ → Lane) (c : ℕ) (r : Row) → length h.rows ≡ b.settings.lanes
    → c < b.settings.lanes → HelperRows b h.rows lanes → HelperRowAt b c (b.foreign c) r (bare r)
    → HelperRows b (slice_set h.rows c r) (put lanes c (record (lanes c) { helper = bare_at (with_row h c r) c }))
rows_change b h lanes c r count low rows hr =
    let lane : Lane = record (lanes c) { helper = bare_at (with_row h c r) c } in
    let here : bare_at (with_row h c r) c ≡ bare r = ap bare (get_or-set_same h.rows c r helper.idle (omega (arith, count, low))) in
    rows_set b h.rows lanes (put lanes c lane) c r (bare r) count low rows
    (ap (λ l. l.helper) (put_here lanes c lane) ∙ here) (λ d n. ap (λ l. l.helper) (put_other lanes c lane d n)) hr

-- ---- what a turn leaves

-- the server still follows the token run with the lane's row as it is then
pub record Leaves (b : Book) (w : World) (c : ℕ) (h : Server) : Type 0 where
  pub settings : h.settings ≡ b.settings
  pub seed : h.seed ≡ helper_seed b.seed
  pub count : length h.rows ≡ b.settings.lanes
  pub rows : HelperRows b h.rows (put w.lanes c (record (w.lanes c) { helper = bare_at h c }))
  pub boxes : h.boxes ≡ boxes_at b 1 w.carried
  pub draws : h.draws ≡ begun_in w.journal
  pub begun : HaveBegun b h.rows w.carried

-- the same as before
pub stays : (b : Book) (f : FrameWorld) (w : World) (c : ℕ) → Follows b f w → Leaves b w c f.helper.server
stays b f w c h =
    let hh = h.helper in
    record {
      settings = hh.settings;
      seed = hh.seed;
      count = hh.count;
      rows = rows_stay b f.helper.server w.lanes c hh.rows;
      boxes = hh.boxes;
      draws = hh.draws;
      begun = hh.begun;
    }

-- one row changed
pub changes : (b : Book) (f : FrameWorld) (w : World) (c : ℕ) (r : Row) → Follows b f w → c < b.settings.lanes
    → HelperRowAt b c (b.foreign c) r (bare r) → (b.foreign c ≡ true → HasBegun b w.carried c r.serial r.stage)
    → Leaves b w c (with_row f.helper.server c r)
changes b f w c r h low hr begun =
    let hh = h.helper in
    record {
      settings = hh.settings;
      seed = hh.seed;
      count = length-set f.helper.server.rows c r ∙ hh.count;
      rows = rows_change b f.helper.server w.lanes c r hh.count low hh.rows hr;
      boxes = hh.boxes;
      draws = hh.draws;
      begun = begun_set b f.helper.server.rows w.carried c r hh.count low hh.begun begun;
    }

-- the helper's server changes, and something is posted
pub helper_turns : (b : Book) (f : FrameWorld) (w : World) (c moment : ℕ) (server : Server) (ts : List Token) (ls : List Letter)
    → Follows b f w → (l : Leaves b w c server) → Pools b ts ls
    → Follows b (frames.posts (record f { helper = record f.helper { server = server } }) ls)
    (record w { lanes = put w.lanes c (record (w.lanes c) { helper = bare_at server c }); moment = moment; pool = w.pool ++ ts })
helper_turns b f w c moment server ts ls h l said =
    let lane : Lane = record (w.lanes c) { helper = bare_at server c } in
    let hh = h.helper in
    let la = h.leader in
    record {
      limit = h.limit;
      width = h.width;
      window = h.window;
      foreign = h.foreign;
      helper = record {
        settings = l.settings;
        seed = l.seed;
        count = l.count;
        rows = l.rows;
        boxes = l.boxes;
        draws = l.draws;
        number = hh.number;
        kept = hh.kept;
        window = hh.window;
        most = hh.most;
        begun = l.begun;
      };
      leader = record {
        settings = la.settings;
        seed = la.seed;
        count = la.count;
        rows = λ d there. rw (put_part (λ l. l.leader) w.lanes c lane refl d) (la.rows d there);
        boxes = la.boxes;
        draws = la.draws;
        next = la.next;
        outstanding = la.outstanding;
        issued = la.issued;
        foreign = la.foreign;
        begun = la.begun;
        awaited = la.awaited;
      };
      clients = λ d. rw (put_part (λ l. l.step) w.lanes c lane refl d, put_part (λ l. l.serial) w.lanes c lane refl d) (h.clients d);
      waiting = h.waiting;
      told = h.told;
      pool = pools_append b w.pool ts f.pool ls h.pool said;
      journal = h.journal;
      outcomes = h.outcomes;
    }

-- ---- answers

-- a turn at bytes from outside: what it leaves, and an answer of which only the addressee is told
pub record Turns (b : Book) (w : World) (c : ℕ) (t : helper.Turn) : Type 0 where
  pub leaves : Leaves b w c t.server
  pub why : (b.foreign t.reply.lane ≡ true) ⊎ OfNoFrame t.reply.body
  pub is_frame : IsFrame t.reply

abbrev pub turned : FrameWorld → helper.Turn → FrameWorld
turned f t = frames.to_helper f (record { helper = record f.helper { server = t.server }; reply = t.reply })

-- its answer as a token's
pub answered : (b : Book) (w : World) (c : ℕ) (t : helper.Turn) → Turns b w c t
    → Pools b (token.Foreign t.reply.lane ∷ []) (letter (ToClient t.reply.lane) (spelling t.reply) ∷ [])
answered b w c t k =
    (record { frame = t.reply; why = k.why; lane = refl; spelled = record { at = refl; bytes = refl; is_frame = k.is_frame } }, tt)

-- bytes that are refused as no frame
pub refused_turns : (b : Book) (f : FrameWorld) (w : World) (c : ℕ) (r : Refusal) → Follows b f w
    → OfNoFrame (frame.Refused r) → IsFrame (record { lane = 0; serial = 0; link = 0; body = frame.Refused r })
    → Turns b w c (helper.refuses_bytes f.helper.server r)
refused_turns b f w c r h why is_frame = record { leaves = stays b f w c h; why = inr why; is_frame = is_frame }

-- ---- a frame of a lane

phase_small : (x : Stage) → phase_of x < 2 ^ 8
phase_small Idle = omega arith
phase_small (Deposited held) = omega arith
phase_small (Begun write) = omega arith
phase_small (Proved write share) = omega arith
phase_small (Audited write closing) = omega arith
phase_small (Done want) = omega arith

-- a row's turn and its answer
pub record RowTurns (b : Book) (carried c s : ℕ) (t : RowTurn) : Type 0 where
  pub row : ForeignHelperRow b c t.row (bare t.row)
  pub begun : HasBegun b carried c t.row.serial t.row.stage
  pub is_frame : IsFrame (frame_with c s 0 t.body)

same_row : (b : Book) (c : ℕ) (r : Row) (x : token.Row) → ForeignHelperRow b c r x → ForeignHelperRow b c r (bare r)
same_row b c r x h = record { bare = refl; small = h.small; holds = h.holds }

-- what is known of where the frame comes from
pub record Came (c s : ℕ) : Type 0 where
  pub lane : c < 2 ^ 16
  pub serial : s < 2 ^ 32
  pub first : 1 ≤ s

refused_frame : (c s : ℕ) → Came c s → (n : ℕ) → n < 2 ^ 32 → IsFrame (frame_with c s 0 (frame.Refused (refusal.Stale n)))
refused_frame c s k n low =
    record { lane = k.lane; serial = k.serial; addressed = k.first; link = omega arith; linked = refl; body = low }

out_of_phase : (c s : ℕ) → Came c s → (x : Stage) → IsFrame (frame_with c s 0 (frame.Refused (refusal.Phase (phase_of x))))
out_of_phase c s k x =
    record { lane = k.lane; serial = k.serial; addressed = k.first; link = omega arith; linked = refl; body = phase_small x }

held_frame : (c s : ℕ) (proof : Bool) → Came c s → IsFrame (frame_with c s 0 (frame.Held proof))
held_frame c s proof k =
    record { lane = k.lane; serial = k.serial; addressed = k.first; link = omega arith; linked = refl; body = tt }

-- ---- deposits

deposit_cases : (b : Book) (carried c s : ℕ) (r : Row) (x : token.Row) (held : DepositBody) (less same wanted : Bool)
    → ForeignHelperRow b c r x → HasBegun b carried c r.serial r.stage → Came c s → (less ≡ false → same ≡ false → ForeignHolds b c s (Deposited held))
    → RowTurns b carried c s (steps.deposit_at r s held (cond less (Stale r.serial) (cond same (cond wanted Same (Phase (phase_of r.stage))) New)))
unfolding steps.deposit_at
deposit_cases b carried c s r x held true same wanted h begun k new =
    record { row = same_row b c r x h; begun = begun; is_frame = refused_frame c s k r.serial h.small }
deposit_cases b carried c s r x held false true true h begun k new = record { row = same_row b c r x h; begun = begun; is_frame = held_frame c s false k }
deposit_cases b carried c s r x held false true false h begun k new = record { row = same_row b c r x h; begun = begun; is_frame = out_of_phase c s k r.stage }
deposit_cases b carried c s r x held false false wanted h begun k new =
    record { row = record { bare = refl; small = k.serial; holds = new refl refl }; begun = tt; is_frame = held_frame c s false k }

pub deposit_turns : (b : Book) (carried c s : ℕ) (r : Row) (x : token.Row) (held : DepositBody)
    → ForeignHelperRow b c r x → HasBegun b carried c r.serial r.stage → Came c s → (r.serial < s → ForeignHolds b c s (Deposited held))
    → RowTurns b carried c s (deposit_row r s held)
unfolding deposit_row opening_gate
deposit_turns b carried c s r x held h begun k new =
    deposit_cases b carried c s r x held (nat_lt s r.serial) (nat_eq s r.serial) (same_want (want_in held) (want_of r.stage)) h begun k
    (λ less same. new (let l = ltb-false s r.serial less in let n = other same in omega (arith, l, n)))
  where
    other : nat_eq s r.serial ≡ false → s ≢ r.serial
    other e same = let t : nat_eq s r.serial ≡ true = eq-eqb s r.serial same in absurd (cc (sym t ∙ e))

-- ---- proofs

-- the first proof of a write that has begun is kept
abbrev pub TakesShare : Book → ℕ → ℕ → ProofShare → Stage → Type 0
TakesShare b c s share (Begun write) = share ≡ share_at b 1 c s
TakesShare b c s share stage = Unit {0}

proof_in : (b : Book) (carried c s : ℕ) (r : Row) (x : token.Row) (share : ProofShare) (stage : Stage)
    → r.stage ≡ stage → ForeignHelperRow b c r x → HasBegun b carried c r.serial r.stage → Came c s → s ≡ r.serial → TakesShare b c s share stage
    → RowTurns b carried c s (steps.proof_in r share stage)
unfolding steps.proof_in
proof_in b carried c s r x share Idle is h begun k same brings = record { row = same_row b c r x h; begun = begun; is_frame = out_of_phase c s k Idle }
proof_in b carried c s r x share (Deposited held) is h begun k same brings =
    record { row = same_row b c r x h; begun = begun; is_frame = out_of_phase c s k (Deposited held) }
proof_in b carried c s r x share (Begun write) is h begun k same brings =
    let held : ForeignHolds b c r.serial (Begun write) = subst (ForeignHolds b c r.serial) is h.holds in
    record {
      row = record { bare = refl; small = h.small; holds = (held, brings ∙ ap (share_at b 1 c) same) };
      begun = subst (HasBegun b carried c r.serial) is begun;
      is_frame = held_frame c s true k;
    }
proof_in b carried c s r x share (Proved write before) is h begun k same brings =
    record { row = same_row b c r x h; begun = begun; is_frame = held_frame c s true k }
proof_in b carried c s r x share (Audited write own) is h begun k same brings =
    record { row = same_row b c r x h; begun = begun; is_frame = held_frame c s true k }
proof_in b carried c s r x share (Done want) is h begun k same brings =
    record { row = same_row b c r x h; begun = begun; is_frame = held_frame c s true k }

proof_cases : (b : Book) (carried c s : ℕ) (r : Row) (x : token.Row) (share : ProofShare) (same wanted : Bool)
    → ForeignHelperRow b c r x → HasBegun b carried c r.serial r.stage → Came c s → (same ≡ true → s ≡ r.serial) → (same ≡ true → TakesShare b c s share r.stage)
    → RowTurns b carried c s (steps.proof_at r share (cond same (cond wanted Same (Phase (phase_of r.stage))) (Stale r.serial)))
unfolding steps.proof_at
proof_cases b carried c s r x share false wanted h begun k at brings =
    record { row = same_row b c r x h; begun = begun; is_frame = refused_frame c s k r.serial h.small }
proof_cases b carried c s r x share true true h begun k at brings = proof_in b carried c s r x share r.stage refl h begun k (at refl) (brings refl)
proof_cases b carried c s r x share true false h begun k at brings = record { row = same_row b c r x h; begun = begun; is_frame = out_of_phase c s k r.stage }

pub proof_turns : (b : Book) (carried c s : ℕ) (r : Row) (x : token.Row) (share : ProofShare)
    → ForeignHelperRow b c r x → HasBegun b carried c r.serial r.stage → Came c s → (s ≡ r.serial → TakesShare b c s share r.stage)
    → RowTurns b carried c s (proof_row r s share)
unfolding proof_row closing_gate
proof_turns b carried c s r x share h begun k brings =
    proof_cases b carried c s r x share (nat_eq s r.serial) (same_want Write (want_of r.stage)) h begun k (λ t. eqb-true s r.serial t)
    (λ t. brings (eqb-true s r.serial t))
