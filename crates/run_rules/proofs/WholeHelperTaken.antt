-- What the helper took of foreign lanes, its rows have come to; so a frame that it takes is the first of its lane and serial.
use Rattle.std.proofs.Common.{◌≡◌, ◌<◌, ◌≤◌, ◌+◌, ◌*◌, ℕ, nat_eq, nat_lt, true, false, List, Some, slice_get, slice_index_or, refl, sym, ap, subst, arith}
use Rattle.std.proofs.lemmas.Bool.{le-ltb, eq-eqb, ne_eqb}
use Rattle.express_words.specs.declared.audit.ProofShare.{ProofShare}
use Rattle.frame_rules.specs.declared.frame.DepositBody.{DepositBody}
use Rattle.frame_rules.specs.Frames as frame
use Rattle.frame_rules.specs.Frames.{PlainBody}
use Rattle.lane_table.specs.Gates.{opening_gate, closing_gate}
use Rattle.step_rules.specs.Helper.{Row, Stage, Idle, Deposited, Begun, Proved, Audited, Done, idle, row}
use Rattle.step_rules.specs.HelperClients.{deposit_row, deposit_at, proof_row, proof_at, proof_in}
use Rattle.run_rules.specs.Acts.{Taken, is_begun}
use Rattle.run_rules.proofs.WholeHelperRows.{Grow, far, far_grows, rank, rank_few}

-- how far in its request a row has come that took this
abbrev pub mark : PlainBody → ℕ
mark (frame.Deposit held) = 1
mark (frame.Proof share) = 3
mark body = 0

abbrev pub HelperHas : List Row → List Taken → Type 0
HelperHas rows ts = (i : ℕ) (t : Taken) → slice_get ts i ≡ Some t → t.server ≡ 1
    → 8 * t.frame.serial + mark t.frame.body ≤ far (slice_index_or rows t.frame.lane idle)

pub has_later : (xs ys : List Row) (ts : List Taken) → Grow xs ys → HelperHas xs ts → HelperHas ys ts
has_later xs ys ts g h i t e k =
    let x = h i t e k in
    let y = far_grows xs ys g t.frame.lane in
    omega (arith, x, y)

-- a new request has none before
pub no_deposit : (rows : List Row) (ts : List Taken) (c s i : ℕ) (t : Taken) → HelperHas rows ts → slice_get ts i ≡ Some t → t.server ≡ 1
    → t.frame.lane ≡ c → t.frame.serial ≡ s → (slice_index_or rows c idle).serial < s → ⊥
no_deposit rows ts c s i t h e k lane serial small =
    let x : 8 * t.frame.serial + mark t.frame.body ≤ far (slice_index_or rows c idle) =
    subst (λ d. 8 * t.frame.serial + mark t.frame.body ≤ far (slice_index_or rows d idle)) lane (h i t e k) in
    let few = rank_few (slice_index_or rows c idle).stage in
    omega (arith, x, few, serial, small)

begun_rank : (x : Stage) → is_begun x ≡ true → rank x ≡ 2
begun_rank (Begun write) e = refl
begun_rank Idle e = absurd (cc e)
begun_rank (Deposited held) e = absurd (cc e)
begun_rank (Proved write share) e = absurd (cc e)
begun_rank (Audited write closing) e = absurd (cc e)
begun_rank (Done want) e = absurd (cc e)

-- a write that has begun has no proof before
pub no_proof : (rows : List Row) (ts : List Taken) (c s i : ℕ) (t : Taken) (share : ProofShare) → HelperHas rows ts → slice_get ts i ≡ Some t
    → t.server ≡ 1 → t.frame.lane ≡ c → t.frame.serial ≡ s → t.frame.body ≡ frame.Proof share → (slice_index_or rows c idle).serial ≡ s
    → is_begun (slice_index_or rows c idle).stage ≡ true → ⊥
no_proof rows ts c s i t share h e k lane serial body now begun =
    let x : 8 * t.frame.serial + mark t.frame.body ≤ far (slice_index_or rows c idle) =
    subst (λ d. 8 * t.frame.serial + mark t.frame.body ≤ far (slice_index_or rows d idle)) lane (h i t e k) in
    let m : mark t.frame.body ≡ 3 = ap mark body in
    let two = begun_rank (slice_index_or rows c idle).stage begun in
    omega (arith, x, m, two, serial, now)

-- the row that is left where it takes a frame
pub after_deposit : (r : Row) (s : ℕ) (held : DepositBody) → r.serial < s → (deposit_row r s held).row ≡ row s (Deposited held)
unfolding deposit_row opening_gate deposit_at
after_deposit r s held small =
    let past : nat_lt s r.serial ≡ false = le-ltb _ _ (omega (arith, small)) in
    let other : nat_eq s r.serial ≡ false = ne_eqb _ _ (λ e. omega (arith, e, small)) in
    rw (past, other) refl

after_begun : (s : ℕ) (x : Stage) (share : ProofShare) → is_begun x ≡ true → far (proof_row (row s x) s share).row ≡ 8 * s + 3
unfolding proof_row closing_gate proof_at proof_in
after_begun s (Begun write) share e =
    let same : nat_eq s s ≡ true = eq-eqb s s refl in
    rw same refl
after_begun s Idle share e = absurd (cc e)
after_begun s (Deposited held) share e = absurd (cc e)
after_begun s (Proved write before) share e = absurd (cc e)
after_begun s (Audited write closing) share e = absurd (cc e)
after_begun s (Done want) share e = absurd (cc e)

pub after_proof : (r : Row) (s : ℕ) (share : ProofShare) → s ≡ r.serial → is_begun r.stage ≡ true → far (proof_row r s share).row ≡ 8 * s + 3
after_proof r s share same begun =
    subst (λ n. far (proof_row r n share).row ≡ 8 * n + 3) (sym same) (after_begun r.serial r.stage share begun)
