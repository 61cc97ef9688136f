-- What the helper takes of a foreign frame is what the history says: the first that brings it, as rows never fall back.
use Rattle.std.proofs.Common.{◌≡◌, ℕ, suc, zero, cond, ◌&&◌, nat_lt, nat_le, nat_eq, ◌<◌, ◌≤◌, ◌+◌, ◌*◌, true, false, Bool, List, [], ◌∷◌, ◌++◌, Option, Some, None, Ok, slice_get, slice_index_or, refl, sym, ap, ◌∙◌, subst, arith}
use Rattle.std.proofs.lemmas.Bool.{and_parts, eqb-true, eq-eqb, false_from_ne_true, leb-false, lt-leb, lt-ltb, ltb-true}
use Rattle.std.proofs.lemmas.List.{get_or-set_same}
use Rattle.express_words.specs.declared.audit.ProofShare.{ProofShare}
use Rattle.frame_rules.specs.declared.frame.DepositBody.{DepositBody}
use Rattle.frame_rules.specs.declared.frame.DepositBody.TheVariants as deposit
use Rattle.frame_rules.specs.Frames as frame
use Rattle.frame_rules.specs.Frames.{PlainFrame, PlainBody}
use Rattle.frame_rules.specs.Spelling.{spelling, IsFrame, IsBody, IsDeposit}
use Rattle.frame_rules.specs.Whole.{whole}
use Rattle.lane_table.specs.Gates.{opening_gate, closing_gate}
use Rattle.token_rules.specs.Tokens as token
use Rattle.token_rules.specs.Tokens.{World}
use Rattle.step_rules.specs.Helper as helper
use Rattle.step_rules.specs.Helper.{Row, Stage, Begun, Deposited, Idle, Proved, Audited, Done, idle, row_at, want_in}
use Rattle.step_rules.specs.HelperClients as steps
use Rattle.step_rules.specs.HelperClients.{RowTurn, deposit_row, proof_row}
use Rattle.run_rules.specs.Letters.{Letter, FrameWorld}
use Rattle.run_rules.specs.Run as frames
use Rattle.run_rules.specs.Book.{Book, Brought}
use Rattle.run_rules.specs.Follows.{Carries, Follows}
use Rattle.run_rules.specs.Acts.{AreTaken, IsTaken, Taken, brought_by, helper_takes, if_here, is_begun, is_share, is_word, key_in, root_in, share_in, taken, taken_of, taken_in}
use Rattle.run_rules.proofs.Basics.{whole_spelled}
use Rattle.run_rules.proofs.WholeHelperRows.{Grow, far, far_grows, rank, rank_few}
use Rattle.run_rules.proofs.ForeignLeaderFinds.{absent, brings_here, first_found, fits, share_tested}

-- ---- the rows have come as far as what was taken

abbrev pub mark : PlainBody → ℕ
mark (frame.Deposit held) = 1
mark (frame.Proof share) = 3
mark body = 0

abbrev pub HasRow : List Row → Taken → Type 0
HasRow rows t = t.server ≡ 1 → 8 * t.frame.serial + mark t.frame.body ≤ far (slice_index_or rows t.frame.lane idle)

abbrev pub HaveRows : List Row → List Taken → Type 0
HaveRows rows [] = Unit {0}
HaveRows rows (t ∷ ts) = HasRow rows t × HaveRows rows ts

row_of : (rows : List Row) (ts : List Taken) (i : ℕ) (t : Taken) → HaveRows rows ts → slice_get ts i ≡ Some t → HasRow rows t
row_of rows [] i t h e = absurd (cc e)
row_of rows (x ∷ ts) zero t h e = let same : x ≡ t = cc e in subst (HasRow rows) same h.0
row_of rows (x ∷ ts) (suc i) t h e = row_of rows ts i t h.1 e

pub rows_later : (xs ys : List Row) (ts : List Taken) → Grow xs ys → HaveRows xs ts → HaveRows ys ts
rows_later xs ys [] grow h = tt
rows_later xs ys (t ∷ ts) grow h =
    ((λ e. let a = h.0 e in let b = far_grows xs ys grow t.frame.lane in omega (arith, a, b)), rows_later xs ys ts grow h.1)

pub rows_more : (rows : List Row) (ts us : List Taken) → HaveRows rows ts → HaveRows rows us → HaveRows rows (ts ++ us)
rows_more rows [] us h k = k
rows_more rows (t ∷ ts) us h k = (h.0, rows_more rows ts us h.1 k)

-- ---- the row that a new frame leaves

deposited : (r : Row) (s : ℕ) (held : DepositBody) → r.serial < s → (deposit_row r s held).row ≡ helper.row s (Deposited held)
unfolding deposit_row steps.deposit_at opening_gate
deposited r s held later =
    let one : nat_lt s r.serial ≡ false = false_from_ne_true _ (λ t. let l = ltb-true _ _ t in omega (arith, l, later)) in
    let two : nat_eq s r.serial ≡ false = false_from_ne_true _ (λ t. let l = eqb-true _ _ t in omega (arith, l, later)) in
    rw (one, two) refl

proved_in : (r : Row) (s : ℕ) (share : ProofShare) (x : Stage) → r.stage ≡ x → s ≡ r.serial → is_begun x ≡ true → far (proof_row r s share).row ≡ 8 * s + 3
unfolding proof_row steps.proof_at steps.proof_in closing_gate
proved_in r s share (Begun write) e at begun =
    let one : nat_eq s r.serial ≡ true = eq-eqb _ _ at in
    rw (one, e) (ap (λ n. 8 * n + 3) (sym at))
proved_in r s share Idle e at begun = absurd (cc begun)
proved_in r s share (Deposited held) e at begun = absurd (cc begun)
proved_in r s share (Proved write before) e at begun = absurd (cc begun)
proved_in r s share (Audited write own) e at begun = absurd (cc begun)
proved_in r s share (Done want) e at begun = absurd (cc begun)

begun_rank : (x : Stage) → is_begun x ≡ true → rank x ≡ 2
begun_rank (Begun write) e = refl
begun_rank Idle e = absurd (cc e)
begun_rank (Deposited held) e = absurd (cc e)
begun_rank (Proved write before) e = absurd (cc e)
begun_rank (Audited write own) e = absurd (cc e)
begun_rank (Done want) e = absurd (cc e)

module _ (b : Book) (f : FrameWorld) (w : World) (g : PlainFrame) (bytes : List ℕ) (h : Follows b f w) (fr : IsFrame g)
    (read : whole bytes ≡ Ok g) (ts more : List Taken) (have : HaveRows f.helper.server.rows ts) where
  abbrev c : ℕ
  c = g.lane

  abbrev s : ℕ
  s = g.serial

  abbrev r : Row
  r = row_at f.helper.server g.lane

  abbrev after : List Row
  after = (steps.client_turn f.helper.server bytes).server.rows

  abbrev Good : List Taken → Type 0
  Good us = b.brought ≡ brought_by b.settings.width ((ts ++ us) ++ more) → AreTaken b us × HaveRows after us

  row_left : (t : RowTurn) → c < f.helper.server.settings.lanes → steps.by_kind f.helper.server g g.body ≡ steps.if_lane f.helper.server g t
      → slice_index_or after c idle ≡ t.row
  unfolding steps.on_whole steps.if_lane
  row_left t low is =
      let small : nat_le f.helper.server.settings.lanes c ≡ false = lt-leb _ _ low in
      let turn_is : steps.client_turn f.helper.server bytes ≡ steps.if_lane f.helper.server g t = ap (steps.on_whole f.helper.server) read ∙ is in
      let at : steps.if_lane f.helper.server g t ≡ steps.at_row f.helper.server g t = rw small refl in
      let count = h.helper.count in
      let same = ap (λ x. x.lanes) h.helper.settings in
      ap (λ (t : helper.Turn). slice_index_or t.server.rows c idle) (turn_is ∙ at) ∙ get_or-set_same f.helper.server.rows c t.row idle (omega (arith, count, same, low))

  -- a deposit is the first of its request's frames
  first_deposit : {X : Type 0} (of : PlainBody → Option X) → r.serial < s → (i : ℕ) (u : Taken) → slice_get ts i ≡ Some u → if_here of 1 c s u ≡ None
  first_deposit of later i u at = absent of 1 c s u (λ server lane serial.
      let l = row_of f.helper.server.rows ts i u have at server in
      let m : far (slice_index_or f.helper.server.rows u.frame.lane idle) ≡ far r = ap (λ d. far (slice_index_or f.helper.server.rows d idle)) lane in
      let few = rank_few r.stage in
      absurd (omega (arith, l, m, few, later, serial)))

  first_proof : s ≡ r.serial → is_begun r.stage ≡ true → (i : ℕ) (u : Taken) → slice_get ts i ≡ Some u → if_here share_in 1 c s u ≡ None
  first_proof same begun i u at = absent share_in 1 c s u (λ server lane serial.
      let l = row_of f.helper.server.rows ts i u have at server in
      let m : far (slice_index_or f.helper.server.rows u.frame.lane idle) ≡ far r = ap (λ d. far (slice_index_or f.helper.server.rows d idle)) lane in
      let two = begun_rank r.stage begun in
      of_body u.frame.body (omega (arith, l, m, two, same, serial)))
    where
      of_body : (body : PlainBody) → mark body < 3 → share_in body ≡ None
      of_body (frame.Proof share) few = absurd (omega (arith, few))
      of_body body few = refl

  deposit_taken : (held : DepositBody) → g.body ≡ frame.Deposit held → IsDeposit held → r.serial < s → b.brought ≡ brought_by b.settings.width ((ts ++ taken 1 g) ++ more)
      → IsTaken b 1 c s (frame.Deposit held)
  deposit_taken (deposit.Register key) is fits_so later history =
      sym (ap (λ (x : Brought). x.key 1 c s) history ∙ first_found key_in 1 c s _ ts (record { server = 1; frame = g }) more key (first_deposit key_in later)
      (brings_here key_in 1 g key (ap key_in is ∙ fits _ key (eq-eqb _ _ fits_so))))
  deposit_taken (deposit.Write root) is fits_so later history =
      sym (ap (λ (x : Brought). x.root 1 c s) history ∙ first_found root_in 1 c s _ ts (record { server = 1; frame = g }) more root (first_deposit root_in later)
      (brings_here root_in 1 g root (ap root_in is ∙ fits (is_word root) root (lt-ltb _ _ fits_so))))
  deposit_taken (deposit.Read held) is fits_so later history = tt

  of_kind : (body : PlainBody) → g.body ≡ body → IsBody body → c < f.helper.server.settings.lanes → Good (helper_takes r g body)
  unfolding steps.by_kind
  of_kind (frame.Deposit held) is fits_so low = at_test (nat_lt r.serial s) refl
    where
      at_test : (t : Bool) → nat_lt r.serial s ≡ t → Good (cond t (taken 1 g) [])
      at_test false e = λ history. (tt, tt)
      at_test true e = λ history.
          let later = ltb-true _ _ e in
          let left = row_left (deposit_row r s held) low (ap (steps.by_kind f.helper.server g) is) in
          let far_is : far (slice_index_or after c idle) ≡ 8 * s + 1 = ap (λ x. far x) (left ∙ deposited r s held later) in
          let one : mark g.body ≡ 1 = ap mark is in
          ((subst (IsTaken b 1 c s) (sym is) (deposit_taken held is fits_so later history), tt), ((λ x. omega (arith, far_is, one)), tt))
  of_kind (frame.Proof share) is fits_so low = at_test (nat_eq s r.serial && is_begun r.stage) refl
    where
      at_test : (t : Bool) → (nat_eq s r.serial && is_begun r.stage) ≡ t → Good (cond t (taken 1 g) [])
      at_test false e = λ history. (tt, tt)
      at_test true e = λ history.
          let p = and_parts _ _ e in
          let same = eqb-true _ _ p.0 in
          let left = row_left (proof_row r s share) low (ap (steps.by_kind f.helper.server g) is) in
          let far_is : far (slice_index_or after c idle) ≡ 8 * s + 3 = ap (λ x. far x) left ∙ proved_in r s share r.stage refl same p.1 in
          let three : mark g.body ≡ 3 = ap mark is in
          let found : share ≡ b.brought.share 1 c s =
          sym (ap (λ (x : Brought). x.share 1 c s) history ∙ first_found share_in 1 c s _ ts (record { server = 1; frame = g }) more share (first_proof same p.1)
          (brings_here share_in 1 g share (ap share_in is ∙ fits (is_share share) share (share_tested share fits_so)))) in
          ((subst (IsTaken b 1 c s) (sym is) found, tt), ((λ x. omega (arith, far_is, three)), tt))
  of_kind body is fits_so low = λ history. (tt, tt)

  pub taken_are : Good (taken_in false f bytes (Ok g))
  taken_are = at_lane (nat_le f.helper.server.settings.lanes c) refl
    where
      at_lane : (t : Bool) → nat_le f.helper.server.settings.lanes c ≡ t → Good (cond t [] (helper_takes r g g.body))
      at_lane true e = λ history. (tt, tt)
      at_lane false e = let l = leb-false _ _ e in of_kind g.body refl fr.body (omega (arith, l))

-- what the helper takes is the history's, and its rows have come as far
pub helper_are_taken : (b : Book) (f : FrameWorld) (w : World) (c : ℕ) (l : Letter) (ts more : List Taken) → Follows b f w
    → Carries b (token.Injected false (Some c)) l → HaveRows f.helper.server.rows ts
    → b.brought ≡ brought_by b.settings.width ((ts ++ taken_of f (token.Injected false (Some c)) l) ++ more)
    → AreTaken b (taken_of f (token.Injected false (Some c)) l)
    × HaveRows (frames.comes f l.to l.bytes).helper.server.rows (taken_of f (token.Injected false (Some c)) l)
unfolding frames.comes
helper_are_taken b f w c l ts more h k have history =
    let g = k.1.0 in
    let fr : IsFrame g = k.1.1.0 in
    let spelled : l.bytes ≡ spelling g = k.1.1.1.0 in
    let read : whole l.bytes ≡ Ok g = ap whole spelled ∙ whole_spelled g fr in
    let takes = ap (taken_in false f l.bytes) read in
    let good = taken_are b f w g l.bytes h fr read ts more have (subst (λ us. b.brought ≡ brought_by b.settings.width ((ts ++ us) ++ more)) takes history) in (
      subst (AreTaken b) (sym takes) good.0,
      subst (HaveRows (frames.comes f l.to l.bytes).helper.server.rows) (sym takes)
          (subst (λ to. HaveRows (frames.comes f to l.bytes).helper.server.rows (taken_in false f l.bytes (Ok g))) (sym k.0) good.1),
    )
