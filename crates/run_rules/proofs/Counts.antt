-- The count of boxes that a lane's write has, and how long it stays.
use Rattle.std.proofs.Common.{◌≡◌, ◌<◌, ◌+◌, ℕ, nat_eq, nat_le, true, false, List, length, slice_get, slice_set, slice_index_or, Option, Some, None, refl, sym, ap, ◌∙◌, subst, inl, inr, arith, add-one}
use Rattle.std.proofs.lemmas.Bool.{cases_eq, cond_both, ne_eqb, eq-eqb}
use Rattle.std.proofs.lemmas.List.{get_or-set_same, get_or-set_other}
use Rattle.mailbox_rules.specs.Requests.{Line, Entry, Operation, AddBox, BeginWrite, AuditWrite, SettleWrite, ReadBox, RetireBox, Refuse}
use Rattle.mailbox_rules.specs.Tables.{Table, Writes, after_register, after_line, no_writes}
use Rattle.mailbox_rules.proofs.Folds.{parts_grow}
use Rattle.step_rules.specs.Helper as helper
use Rattle.step_rules.specs.Helper.{Row, idle}
use Rattle.run_rules.specs.Book.{Book, table_at}
use Rattle.run_rules.specs.Follows.{BegunAt, HasBegun, HaveBegun}

-- a line is the begin of a lane's write
abbrev pub IsBegin : ℕ → Line → Operation → Type 0
IsBegin c x BeginWrite = x.lane ≡ c
IsBegin c x does = ⊥

count_register : (limit width : ℕ) (t : Table) (x : Line) (address : ℕ) (found : Option ℕ)
    → (after_register limit width t x address found).count ≡ t.count
unfolding after_register
count_register limit width t x address (Some n) = refl
count_register limit width t x address None =
    cond_both {A = Table} (nat_le limit (length t.boxes)) _ _ (λ u. u.count ≡ t.count) (λ f. refl) (λ f. refl)

pub count_kept : (limit width : ℕ) (writes : Writes) (t : Table) (x : Line) (does : Operation) (c : ℕ)
    → (IsBegin c x does → ⊥) → (after_line limit width writes t x does).count c ≡ t.count c
unfolding after_line
count_kept limit width writes t x (AddBox address) c h = ap (λ f. f c) (count_register limit width t x address _)
count_kept limit width writes t x BeginWrite c h =
    let other : nat_eq c x.lane ≡ false = ne_eqb c x.lane (λ e. h (sym e)) in rw other refl
count_kept limit width writes t x AuditWrite c h = refl
count_kept limit width writes t x SettleWrite c h =
    cond_both {A = Table} (writes.accepts x.lane x.serial) _ _ (λ u. u.count c ≡ t.count c) (λ f. refl) (λ f. refl)
count_kept limit width writes t x (ReadBox box) c h = refl
count_kept limit width writes t x (RetireBox box) c h = refl
count_kept limit width writes t x Refuse c h = refl

pub count_begun : (limit width : ℕ) (writes : Writes) (t : Table) (x : Line)
    → (after_line limit width writes t x BeginWrite).count x.lane ≡ length t.boxes
unfolding after_line
count_begun limit width writes t x = let here : nat_eq x.lane x.lane ≡ true = eq-eqb x.lane x.lane refl in rw here refl

-- ---- foreign lanes' writes at the helper

-- an entry that isn't the lane's begin leaves its write begun
pub begun_later : (b : Book) (i c s : ℕ) (e : Entry) → slice_get b.entries i ≡ Some e → (IsBegin c e.line e.does → ⊥)
    → BegunAt b i c s → BegunAt b (i + 1) c s
begun_later b i c s e is other h =
    let before = h.before in
    record {
      before = omega (arith, before);
      count =
          ap (λ n. (table_at b n).count c) (add-one i)
          ∙ ap (λ t. t.count c) (parts_grow b.settings.boxes b.settings.width no_writes b.entries i e is)
          ∙ count_kept b.settings.boxes b.settings.width no_writes (table_at b i) e.line e.does c other
          ∙ h.count;
    }

pub has_begun_later : (b : Book) (i c s : ℕ) (stage : helper.Stage) (e : Entry) → slice_get b.entries i ≡ Some e
    → (IsBegin c e.line e.does → ⊥) → HasBegun b i c s stage → HasBegun b (i + 1) c s stage
has_begun_later b i c s (helper.Begun write) e is other h = begun_later b i c s e is other h
has_begun_later b i c s (helper.Proved write share) e is other h = begun_later b i c s e is other h
has_begun_later b i c s (helper.Audited write closing) e is other h = begun_later b i c s e is other h
has_begun_later b i c s helper.Idle e is other h = tt
has_begun_later b i c s (helper.Deposited held) e is other h = tt
has_begun_later b i c s (helper.Done want) e is other h = tt

begins_own : (c : ℕ) (x : Line) (does : Operation) → IsBegin c x does → x.lane ≡ c
begins_own c x BeginWrite h = h
begins_own c x does h = absurd h

-- one row changed
pub begun_set : (b : Book) (rows : List Row) (carried c : ℕ) (r : Row) → length rows ≡ b.settings.lanes
    → c < b.settings.lanes → HaveBegun b rows carried
    → (b.foreign c ≡ true → HasBegun b carried c r.serial r.stage) → HaveBegun b (slice_set rows c r) carried
begun_set b rows carried c r count there h k d low foreign = elim (cases_eq d c) [
  | inl s ↦
      let got : slice_index_or (slice_set rows c r) d idle ≡ r = ap (λ i. slice_index_or (slice_set rows c r) i idle) s ∙ get_or-set_same rows c r idle (omega (arith, count, there)) in
      let mine = k (ap b.foreign (sym s) ∙ foreign) in
      rw got (subst (λ i. HasBegun b carried i r.serial r.stage) (sym s) mine)
  | inr n ↦
      let got : slice_index_or (slice_set rows c r) d idle ≡ slice_index_or rows d idle = get_or-set_other rows c d r idle n in
      rw got (h d low foreign)
]

-- one row changed by an entry of its lane
pub begun_more : (b : Book) (rows : List Row) (i : ℕ) (r : Row) (e : Entry) → length rows ≡ b.settings.lanes
    → e.line.lane < b.settings.lanes → slice_get b.entries i ≡ Some e → HaveBegun b rows i
    → (b.foreign e.line.lane ≡ true → HasBegun b (i + 1) e.line.lane r.serial r.stage)
    → HaveBegun b (slice_set rows e.line.lane r) (i + 1)
begun_more b rows i r e count there is h k d low foreign = elim (cases_eq d e.line.lane) [
  | inl s ↦
      let got : slice_index_or (slice_set rows e.line.lane r) d idle ≡ r = ap (λ i. slice_index_or (slice_set rows e.line.lane r) i idle) s ∙ get_or-set_same rows e.line.lane r idle (omega (arith, count, there)) in
      let mine = k (ap b.foreign (sym s) ∙ foreign) in
      rw got (subst (λ c. HasBegun b (i + 1) c r.serial r.stage) (sym s) mine)
  | inr n ↦
      let got : slice_index_or (slice_set rows e.line.lane r) d idle ≡ slice_index_or rows d idle = get_or-set_other rows e.line.lane d r idle n in
      rw got (has_begun_later b i d _ _ e is (λ begins. n (sym (begins_own d e.line e.does begins))) (h d low foreign))
]
