-- A foreign lane's write that the leader knows to have begun stays so while other lanes go on.
use Rattle.std.proofs.Common.{◌≡◌, ◌≢◌, ◌<◌, ◌≤◌, ◌+◌, ℕ, true, false, List, [], ◌∷◌, ◌++◌, length, slice_get, slice_set, slice_index_or, Some, sym, ap, ◌∙◌, subst, inl, inr, arith}
use Rattle.std.proofs.lemmas.Bool.{cases_eq}
use Rattle.std.proofs.lemmas.List.{get_or-set_same, get_or-set_other}
use Rattle.mailbox_rules.specs.Requests.{Command, Line, Entry, Operation, BeginWrite}
use Rattle.step_rules.specs.Leader as leader
use Rattle.step_rules.specs.Leader.{Row, idle}
use Rattle.run_rules.specs.Book.{Book}
use Rattle.run_rules.specs.Follows.{WasBegun, WereBegun, Awaits, AreAwaited, ForeignCommands}
use Rattle.token_rules.proofs.Lists.{get_more}
use Rattle.run_rules.proofs.Counts.{IsBegin, begun_later}

-- the entry of a lane's command
pub record EntryOf (b : Book) (i c : ℕ) : Type 0 where
  pub entry : Entry
  pub is : slice_get b.entries i ≡ Some entry
  pub lane : entry.line.lane ≡ c

begins_own : (c : ℕ) (x : Line) (does : Operation) → IsBegin c x does → x.lane ≡ c
begins_own c x BeginWrite h = h
begins_own c x does h = absurd h

pub was_begun_later : (b : Book) (i c s : ℕ) (stage : leader.Stage) (e : Entry) → slice_get b.entries i ≡ Some e
    → (IsBegin c e.line e.does → ⊥) → WasBegun b i c s stage → WasBegun b (i + 1) c s stage
was_begun_later b i c s (leader.Challenged write kept) e is other h = begun_later b i c s e is other h
was_begun_later b i c s (leader.Auditing number write share sigma opened) e is other h = begun_later b i c s e is other h
was_begun_later b i c s (leader.Settling number write own other_closing) e is other h = begun_later b i c s e is other h
was_begun_later b i c s leader.Idle e is other h = tt
was_begun_later b i c s (leader.Waiting number asked) e is other h = tt
was_begun_later b i c s (leader.Done want kept) e is other h = tt

-- one row changed
pub was_begun_set : (b : Book) (rows : List Row) (i c : ℕ) (r : Row) → length rows ≡ b.settings.lanes
    → c < b.settings.lanes → WereBegun b rows i
    → (b.foreign c ≡ true → WasBegun b i c r.serial r.stage) → WereBegun b (slice_set rows c r) i
was_begun_set b rows i c r count there h k d low foreign = elim (cases_eq d c) [
  | inl s ↦
      let got : slice_index_or (slice_set rows c r) d idle ≡ r = ap (λ i. slice_index_or (slice_set rows c r) i idle) s ∙ get_or-set_same rows c r idle (omega (arith, count, there)) in
      let mine = k (ap b.foreign (sym s) ∙ foreign) in
      rw got (subst (λ c. WasBegun b i c r.serial r.stage) (sym s) mine)
  | inr n ↦
      let got : slice_index_or (slice_set rows c r) d idle ≡ slice_index_or rows d idle = get_or-set_other rows c d r idle n in
      rw got (h d low foreign)
]

-- one row changed by the reply to a command of its lane
pub was_begun_more : (b : Book) (rows : List Row) (i c : ℕ) (r : Row) → length rows ≡ b.settings.lanes
    → c < b.settings.lanes → EntryOf b i c → WereBegun b rows i
    → (b.foreign c ≡ true → WasBegun b (i + 1) c r.serial r.stage) → WereBegun b (slice_set rows c r) (i + 1)
was_begun_more b rows i c r count there e h k d low foreign = elim (cases_eq d c) [
  | inl s ↦
      let got : slice_index_or (slice_set rows c r) d idle ≡ r = ap (λ i. slice_index_or (slice_set rows c r) i idle) s ∙ get_or-set_same rows c r idle (omega (arith, count, there)) in
      let mine = k (ap b.foreign (sym s) ∙ foreign) in
      rw got (subst (λ c. WasBegun b (i + 1) c r.serial r.stage) (sym s) mine)
  | inr n ↦
      let got : slice_index_or (slice_set rows c r) d idle ≡ slice_index_or rows d idle = get_or-set_other rows c d r idle n in
      rw got (was_begun_later b i d _ _ e.entry e.is (λ begins. n (sym (begins_own d e.entry.line e.entry.does begins) ∙ e.lane)) (h d low foreign))
]

pub not_foreign : (b : Book) (c : ℕ) → b.foreign c ≡ false → b.foreign c ≡ true → ⊥
not_foreign b c hon foreign = cc (sym hon ∙ foreign)

-- ---- a client's row changes, or its command is issued

pub awaited_set : (b : Book) (rows : List Row) (i j c : ℕ) (r : Row) (commands : List Line) → b.foreign c ≡ false → i ≤ j
    → AreAwaited b rows i commands → AreAwaited b (slice_set rows c r) j commands
awaited_set b rows i j c r commands hon more h k x low e foreign =
    let other : x.lane ≢ c = λ same. not_foreign b c hon (ap b.foreign (sym same) ∙ foreign) in
    let got : slice_index_or (slice_set rows c r) x.lane idle ≡ slice_index_or rows x.lane idle = get_or-set_other rows c x.lane r idle other in
    rw got (h k x (omega (arith, more, low)) e foreign)

pub awaited_more : (b : Book) (rows : List Row) (i : ℕ) (commands : List Line) (y : Line) → b.foreign y.lane ≡ false
    → AreAwaited b rows i commands → AreAwaited b rows i (commands ++ y ∷ [])
awaited_more b rows i commands y hon h k x low e foreign = elim (get_more commands y k x e) [
  | inl m ↦ h k x low m.1 foreign
  | inr m ↦ absurd (not_foreign b y.lane hon (ap (λ (z : Line). b.foreign z.lane) m.1 ∙ foreign))
]

-- ---- a foreign lane's command is issued, or the reply to it is applied

-- its row waits for one command alone
pub awaits_one : (y z : Command) (stage : leader.Stage) → Awaits y stage → Awaits z stage → y ≡ z
awaits_one y z (leader.Waiting number asked) h k = sym h ∙ k
awaits_one y z (leader.Auditing number write share sigma opened) h k = h ∙ sym k
awaits_one y z (leader.Settling number write own other) h k = h ∙ sym k
awaits_one y z leader.Idle h k = absurd h
awaits_one y z (leader.Challenged write kept) h k = absurd h
awaits_one y z (leader.Done want kept) h k = absurd h

-- its other commands aren't outstanding
pub awaited_other : (b : Book) (rows : List Row) (i j c : ℕ) (r : Row) (commands : List Line) → i ≤ j
    → ((k : ℕ) (x : Line) → j ≤ k → slice_get commands k ≡ Some x → x.lane ≡ c → ⊥)
    → AreAwaited b rows i commands → AreAwaited b (slice_set rows c r) j commands
awaited_other b rows i j c r commands more none h k x low e foreign =
    let got : slice_index_or (slice_set rows c r) x.lane idle ≡ slice_index_or rows x.lane idle = get_or-set_other rows c x.lane r idle (λ same. none k x low e same) in
    rw got (h k x (omega (arith, more, low)) e foreign)

pub awaited_issue : (b : Book) (rows : List Row) (i c : ℕ) (r : Row) (commands : List Line) (y : Line) → length rows ≡ b.settings.lanes
    → c < b.settings.lanes → y.lane ≡ c → r.serial ≡ y.serial → Awaits y.command r.stage
    → AreAwaited b (slice_set rows c r) i commands → AreAwaited b (slice_set rows c r) i (commands ++ y ∷ [])
awaited_issue b rows i c r commands y count low lane serial waits h k x there e foreign = elim (get_more commands y k x e) [
  | inl m ↦ h k x there m.1 foreign
  | inr m ↦
      let same : x.lane ≡ c = sym (ap (λ (z : Line). z.lane) m.1) ∙ lane in
      let got : slice_index_or (slice_set rows c r) x.lane idle ≡ r = ap (λ d. slice_index_or (slice_set rows c r) d idle) same ∙ get_or-set_same rows c r idle (omega (arith, count, low)) in
      rw got (serial ∙ ap (λ (z : Line). z.serial) m.1, subst (λ z. Awaits z r.stage) (ap (λ (z : Line). z.command) m.1) waits)
]

-- the command at the oldest place is its lane's only one
pub oldest_alone : (b : Book) (rows : List Row) (i : ℕ) (x : Line) (commands : List Line) → b.foreign x.lane ≡ true
    → ForeignCommands b rows commands → AreAwaited b rows i commands → slice_get commands i ≡ Some x
    → (k : ℕ) (z : Line) → i + 1 ≤ k → slice_get commands k ≡ Some z → z.lane ≡ x.lane → ⊥
oldest_alone b rows i x commands foreign once h e k z low f same =
    let mine = h i x (omega arith) e foreign in
    let other = h k z (omega (arith, low)) f (ap b.foreign same ∙ foreign) in
    let lanes : slice_index_or rows z.lane idle ≡ slice_index_or rows x.lane idle = ap (λ d. slice_index_or rows d idle) same in
    let serial : z.serial ≡ x.serial = sym other.0 ∙ ap (λ (r : Row). r.serial) lanes ∙ mine.0 in
    let command : z.command ≡ x.command = awaits_one z.command x.command (slice_index_or rows x.lane idle).stage (subst (λ (r : Row). Awaits z.command r.stage) lanes other.1) mine.1 in
    let line : z ≡ x =
    ap (λ l. record { lane = l; serial = z.serial; command = z.command }) same
    ∙ ap (λ n. record { lane = x.lane; serial = n; command = z.command }) serial
    ∙ ap (λ y. record { lane = x.lane; serial = x.serial; command = y }) command in
    let at = once.once i k x e (f ∙ ap Some line) foreign in
    omega (arith, at, low)
