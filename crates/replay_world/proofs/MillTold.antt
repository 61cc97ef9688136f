-- What the run over bytes of a mill comes to.
use Rattle.std.proofs.Common.{◌≡◌, ℕ, zero, suc, ◌+◌, ◌-◌, ◌<◌, ◌≤◌, inl, inr, Bool, true, false, cond, nat_le, ◌==◌, List, [], ◌∷◌, ◌++◌, length, take, position, Contains, Option, Some, None, slice_get, slice_index_or, arith, refl, sym, ◌∙◌, ap, subst, length-append, zero-add}
use Rattle.std.proofs.lemmas.Bool.{cases_lt, cond_both, lt-leb}
use Rattle.std.proofs.lemmas.Option.{slice_get_within}
use Rattle.express_words.specs.declared.refusal.Refusal.TheVariants as refusal
use Rattle.mailbox_rules.specs.Requests.{AddBox, AuditWrite, BeginWrite, Command, Registers, Begins, Audits, Settles, Reads, Retires, Entry, Line, Operation, ReadBox, Refuse, RetireBox, Request, Register, Retire, SettleWrite, Write, Read, entry, lines_of, opening_of, opens_with, operation_of, reads_box}
use Rattle.mailbox_rules.specs.Tables.{Full, Gave, Mailbox, NoBox, Registered, Settled, Table, Writes, addresses, after_line, after_register, box_of, boxes_with, no_writes, register_result, result_of, table_after, table_from, given}
use Rattle.mailbox_rules.specs.Laws.{Did}
use Rattle.mailbox_rules.proofs.Folds.{parts_grow}
use Rattle.token_rules.specs.Tokens as token
use Rattle.token_rules.specs.Tokens.{Answered, World}
use Rattle.token_rules.specs.Run.{line_of}
use Rattle.token_rules.specs.Laws.{HasLine, HasLines, IsJournaled, last_of}
use Rattle.token_rules.proofs.Lists.{get_taken}
use Rattle.step_rules.specs.Client as client
use Rattle.run_rules.specs.Letters as run
use Rattle.run_rules.specs.Letters.{Ended, NoOwnBox}
use Rattle.run_rules.specs.Book.{Book, place, request_of, table_at}
use Rattle.run_rules.specs.Values.{accepted_at, counted_at}
use Rattle.run_rules.specs.Known.{IsWhole}
use Rattle.run_rules.specs.Plain.{IsAnswer, IsAnswered, IsClients, IsDue, IsPlainOutcome, IsToldPlain, outcome_of, plain_at, plain_of, plain_result}
use Rattle.run_rules.proofs.WriteLeaderCounts.{place_in}
use Rattle.replay_world.proofs.MillTokens.{AreEntries, DoesOther, IsMilled, IsOther, Milled, firsts, get-firsts, never, addresses_more, addresses_cleared, length_addresses, length-firsts}

-- ---- the table of a mill

get_line : (es : List Entry) (i : ℕ) (x : Line) → slice_get (lines_of es) i ≡ Some x → (e : Entry) × (slice_get es i ≡ Some e) × (e.line ≡ x)
get_line [] i x e = absurd (cc e)
get_line (y ∷ es) zero x e = (y, refl, cc)
get_line (y ∷ es) (suc i) x e = get_line es i x e

more_get : {X : Type 0} (xs : List X) (i : ℕ) → i < length xs → (x : X) × (slice_get xs i ≡ Some x)
more_get [] i h = absurd (omega arith)
more_get (x ∷ xs) zero h = (x, refl)
more_get (x ∷ xs) (suc i) h = more_get xs i (omega arith)

module _ (addr : ℕ → ℕ) (apart : (i j : ℕ) → i < 64 → j < 64 → addr i ≡ addr j → i ≡ j) (width : ℕ) (writes : Writes) (es : List Entry) (are : AreEntries addr es) where
  abbrev at : ℕ → Table
  at i = table_after 64 width writes (take i es)

  free : (t : Table) (k : ℕ) → k < 64 → addresses t.boxes ≡ firsts addr k → (box_of (addr k) t.boxes ≡ None) × (nat_le 64 (length t.boxes) ≡ false) × (length t.boxes ≡ k)
  free t k low boxes =
      let none : box_of (addr k) t.boxes ≡ None =
      ap (position (λ other. other == addr k)) boxes
      ∙ never (addr k) (firsts addr k) (λ i e. let r = get-firsts addr k i (addr k) e in let l = r.0 in let same = apart i k (omega (arith, l, low)) low r.1 in omega (arith, l, same)) in
      let size = length_addresses t.boxes in
      let of = length-firsts addr k in
      let same : length (addresses t.boxes) ≡ length (firsts addr k) = ap length boxes in
      (none, lt-leb _ _ (omega (arith, size, of, same, low)), omega (arith, size, of, same))

  one_more : (t : Table) (line : Line) (k : ℕ) → k < 64 → addresses t.boxes ≡ firsts addr k → addresses (after_line 64 width writes t line (AddBox (addr k))).boxes ≡ firsts addr (suc k)
  unfolding after_line after_register
  one_more t line k low boxes =
      let f = free t k low boxes in
      rw (f.0, f.1) (addresses_more t.boxes _ ∙ ap (λ xs. xs ++ addr k ∷ []) boxes)

  pub first_tables : (i : ℕ) → i ≤ 64 → i ≤ length es → addresses (at i).boxes ≡ firsts addr i
  unfolding table_after table_from
  first_tables zero low there = refl
  first_tables (suc i) low there =
      let e = more_get es i (omega arith) in
      let h = (are i e.0 e.1).0 (omega arith) in
      ap (λ (t : Table). addresses t.boxes) (parts_grow 64 width writes es i e.0 e.1)
      ∙ ap (λ d. addresses (after_line 64 width writes (at i) e.0.line d).boxes) h.does
      ∙ one_more (at i) e.0.line i (omega arith) (first_tables i (omega arith) (omega arith))

  -- any other entry changes no address
  boxes_stay : (adds : ℕ → List ℕ) (count : ℕ) (xs : List Mailbox) → addresses (boxes_with adds count xs) ≡ addresses xs
  unfolding boxes_with
  boxes_stay adds zero xs = refl
  boxes_stay adds (suc count) [] = refl
  boxes_stay adds (suc count) (x ∷ xs) = ap (λ rest. x.address ∷ rest) (boxes_stay adds count xs)

  other_line : (t : Table) (line : Line) (does : Operation) → DoesOther does → addresses (after_line 64 width writes t line does).boxes ≡ addresses t.boxes
  unfolding after_line
  other_line t line (AddBox a) h = absurd h
  other_line t line (RetireBox n) h = absurd h
  other_line t line BeginWrite h = refl
  other_line t line AuditWrite h = refl
  other_line t line SettleWrite h =
      cond_both {A = Table} (writes.accepts line.lane line.serial) _ _ (λ u. addresses u.boxes ≡ addresses t.boxes)
      (λ e. boxes_stay (writes.adds line.lane line.serial) (t.count line.lane) t.boxes) (λ e. refl)
  other_line t line (ReadBox n) h = addresses_cleared width true t.boxes n
  other_line t line Refuse h = refl

  take_past : (xs : List Entry) (i : ℕ) → length xs ≤ i → take (suc i) xs ≡ take i xs
  take_past [] zero h = refl
  take_past [] (suc i) h = refl
  take_past (x ∷ xs) zero h = absurd (omega arith)
  take_past (x ∷ xs) (suc i) h = ap (λ ys. x ∷ ys) (take_past xs i (omega arith))

  pub later_tables : (j : ℕ) → 64 ≤ length es → addresses (at (j + 64)).boxes ≡ firsts addr 64
  later_tables zero there = ap (λ i. addresses (at i).boxes) (zero-add 64) ∙ first_tables 64 (omega arith) there
  later_tables (suc j) there =
      let n : suc j + 64 ≡ suc (j + 64) = omega arith in
      ap (λ i. addresses (at i).boxes) n ∙ elim (cases_lt (j + 64) (length es)) [
        | inl low ↦
            let e = more_get es (j + 64) low in
            let h = (are (j + 64) e.0 e.1).1 (omega arith) in
            ap (λ (t : Table). addresses t.boxes) (parts_grow 64 width writes es (j + 64) e.0 e.1)
            ∙ other_line (at (j + 64)) e.0.line e.0.does h.1 ∙ later_tables j there
        | inr high ↦ ap (λ xs. addresses (table_after 64 width writes xs).boxes) (take_past es (j + 64) high) ∙ later_tables j there
      ]

has_first : (addr : ℕ → ℕ) (k j target : ℕ) → j < k → addr j ≡ target → Contains (firsts addr k) target
has_first addr zero j target low e = absurd (omega (arith, low))
has_first addr (suc k) j target low e =
    let size = length-append (firsts addr k) (addr k ∷ []) in
    let of = length-firsts addr k in
    elim (cases_lt j k) [
      | inl less ↦
          let h = has_first addr k j target less e in
          let inside = h.1 in
          (h.0, omega (arith, inside, size), index_left (firsts addr k) (addr k ∷ []) h.0 target inside ∙ h.2)
      | inr same ↦ (k, omega (arith, size, of), ap (λ i. slice_index_or (firsts addr k ++ addr k ∷ []) i target) (sym of) ∙ index_end (firsts addr k) (addr k) target ∙ ap addr (omega (arith, same, low)) ∙ e)
    ]
  where
    index_left : (xs ys : List ℕ) (i d : ℕ) → i < length xs → slice_index_or (xs ++ ys) i d ≡ slice_index_or xs i d
    index_left [] ys i d h = absurd (omega (arith, h))
    index_left (x ∷ xs) ys zero d h = refl
    index_left (x ∷ xs) ys (suc i) d h = index_left xs ys i d (omega (arith, h))

    index_end : (xs : List ℕ) (y d : ℕ) → slice_index_or (xs ++ y ∷ []) (length xs) d ≡ y
    index_end [] y d = refl
    index_end (x ∷ xs) y d = index_end xs y d

-- ---- what is told

-- what the outcome of a request that was opened so is
abbrev pub IsTold : Command → run.Told → Type 0
IsTold Registers told = (n : ℕ) × (told ≡ Ended (client.Registered n))
IsTold Begins told = told ≡ Ended client.Accepted
IsTold Reads told = (bytes : List ℕ) × (told ≡ Ended (client.Message bytes))
IsTold x told = ⊥

abbrev pub TellsAs : token.Told → run.Told → Type 0
TellsAs (Answered s y) told = IsTold y told
TellsAs (token.NoOwnBox own) told = ⊥

module _ (addr : ℕ → ℕ) (apart : (i j : ℕ) → i < 64 → j < 64 → addr i ≡ addr j → i ≡ j) (n : ℕ) (b : Book) (w : World)
    (whole : IsWhole b w) (clients : IsClients b) (m : Milled addr 64 n 64 w) (limit : b.settings.boxes ≡ 64)
    (plain : (c s target : ℕ) (message : List ℕ) → request_of b c s ≡ Some (Write target message) → Contains (counted_at b c s) target → accepted_at b c s ≡ true)
    (aims : (c s target : ℕ) (message : List ℕ) → request_of b c s ≡ Some (Write target message) → (j : ℕ) × (j < 64) × (addr j ≡ target))
    (prefix : lines_of w.journal ≡ take w.carried w.commands) where
  are : AreEntries addr b.entries
  are = subst (AreEntries addr) whole.journal m.entries

  long : 64 ≤ length b.entries
  long = let l = m.lines in let e = ap length whole.journal in omega (arith, l, e)

  -- a line of the journal opens its client's request
  opening_is : (c s : ℕ) (y : Command) (outcome : client.Outcome) (h : IsAnswered b c s outcome) → HasLine (lines_of w.journal) (line_of c s y) → opens_with y ≡ opening_of h.request
  opening_is c s y outcome h line =
      let g = get_line w.journal line.0 (line_of c s y) line.1 in
      let e = g.0 in
      let a : IsAnswer b line.0 e = clients.answers line.0 e (ap (λ es. slice_get es line.0) (sym whole.journal) ∙ g.1) in
      let asked : request_of b c s ≡ Some a.request = ap (λ (x : Line). request_of b x.lane x.serial) (sym g.2) ∙ a.is in
      let same : a.request ≡ h.request = let k = h.asked in cc in
      ap (λ (x : Line). opens_with x.command) (sym g.2) ∙ a.opens ∙ ap opening_of same

  -- the place of a command of that kind is behind the registers
  behind : (i : ℕ) (e : Entry) → slice_get b.entries i ≡ Some e → (e.line.command ≡ Registers → ⊥) → 64 ≤ i
  behind i e at other = elim (cases_lt i 64) [ inl low ↦ absurd (other ((are i e at).0 low).command) | inr high ↦ high ]

  abbrev T : ℕ → Table
  T i = plain_at b i

  plain_table : (i : ℕ) → T i ≡ table_after 64 b.settings.width (plain_of b) (take i b.entries)
  unfolding plain_at
  plain_table i = ap (λ l. table_after l b.settings.width (plain_of b) (take i b.entries)) limit

  registered_outcome : (c s a : ℕ) (outcome : client.Outcome) (h : IsAnswered b c s outcome) → h.request ≡ Register a → (q : ℕ) × (outcome ≡ client.Registered q)
  unfolding plain_result result_of
  registered_outcome c s a outcome h is =
      let k = h.place in
      let command : h.entry.line.command ≡ Registers = ap (λ (x : Line). x.command) h.last ∙ ap (λ r. last_of (opening_of r)) is in
      elim (cases_lt k 64) [
        | inl low ↦
            let e = (are k h.entry h.is).0 low in
            let boxes = ap (λ (t : Table). addresses t.boxes) (plain_table k) ∙ first_tables addr apart b.settings.width (plain_of b) b.entries are k (omega (arith, low)) (let inside = slice_get_within b.entries k h.entry h.is in omega (arith, inside)) in
            let f = free addr apart b.settings.width (plain_of b) b.entries are (T k) k low boxes in
            let result : plain_result b k h.entry ≡ Registered (length (T k).boxes) =
            ap (λ d. result_of b.settings.boxes (plain_of b) (T k) h.entry.line d) e.does
            ∙ ap (register_result b.settings.boxes (T k)) f.0
            ∙ ap (λ l. cond (nat_le l (length (T k).boxes)) (Full l) (Registered (length (T k).boxes))) limit
            ∙ ap (λ t. cond t (Full 64) (Registered (length (T k).boxes))) f.1 in
            let told : Some (client.Registered (length (T k).boxes)) ≡ Some outcome = sym (ap (outcome_of b h.entry.line) result) ∙ h.told in
            (length (T k).boxes, cc)
        | inr high ↦ absurd (subst IsOther command ((are k h.entry h.is).1 high).0)
      ]

  accepted_outcome : (c s target : ℕ) (message : List ℕ) (outcome : client.Outcome) (h : IsAnswered b c s outcome) → h.request ≡ Write target message
      → HasLine (lines_of w.journal) (line_of c s Begins) → outcome ≡ client.Accepted
  unfolding plain_result result_of
  accepted_outcome c s target message outcome h is begun =
      let k = h.place in
      let asked : request_of b c s ≡ Some (Write target message) = h.asked ∙ ap Some is in
      let line : h.entry.line ≡ line_of c s Settles = h.last ∙ ap (λ r. line_of c s (last_of (opening_of r))) is in
      let does : h.entry.does ≡ SettleWrite =
      h.does ∙ ap (λ (x : Line). operation_of ((table_at b k).got c) x.command (Some h.request)) line ∙ ap (λ r. operation_of ((table_at b k).got c) Settles (Some r)) is in
      let i = begun.0 in
      let g = get_line w.journal i (line_of c s Begins) begun.1 in
      let there : slice_get b.entries i ≡ Some g.0 = ap (λ es. slice_get es i) (sym whole.journal) ∙ g.1 in
      let high = behind i g.0 there (λ e. let command = ap (λ (x : Line). x.command) g.2 in cc) in
      let issued : slice_get b.commands i ≡ Some (line_of c s Begins) =
      ap (λ xs. slice_get xs i) (sym whole.commands) ∙ (get_taken w.commands w.carried i (line_of c s Begins) (ap (λ xs. slice_get xs i) (sym prefix) ∙ begun.1)).1 in
      let at : place b c s Begins ≡ i = place_in b w c s i Begins whole (clients.lanes c) issued in
      let n : i ≡ (i - 64) + 64 = omega (arith, high) in
      let counted : counted_at b c s ≡ firsts addr 64 =
      ap (λ i. addresses (table_at b i).boxes) (at ∙ n)
      ∙ ap (λ l. addresses (table_after l b.settings.width no_writes (take ((i - 64) + 64) b.entries)).boxes) limit
      ∙ later_tables addr apart b.settings.width no_writes b.entries are (i - 64) long in
      let aim = aims c s target message asked in
      let has : Contains (firsts addr 64) target = has_first addr 64 aim.0 target aim.1 aim.2 in
      let accepted = plain c s target message asked (subst (λ xs. Contains xs target) (sym counted) has) in
      let result : plain_result b k h.entry ≡ Settled true =
      ap (λ d. result_of b.settings.boxes (plain_of b) (T k) h.entry.line d) does
      ∙ ap (λ (x : Line). Settled (accepted_at b x.lane x.serial)) line ∙ ap Settled accepted in
      let told : Some client.Accepted ≡ Some outcome = sym (ap (outcome_of b h.entry.line) result) ∙ h.told in
      cc

  not_retired : (k q : ℕ) → Did (take k b.entries) (RetireBox q) → ⊥
  not_retired k q did =
      let e : Entry = entry did.line (RetireBox q) in
      let there = (get_taken b.entries k did.place e did.is).1 in
      elim (cases_lt did.place 64) [
        | inl low ↦ let f = ((are did.place e there).0 low).does in cc
        | inr high ↦ ((are did.place e there).1 high).1
      ]

  message_outcome : (c s own : ℕ) (outcome : client.Outcome) (h : IsAnswered b c s outcome) → h.request ≡ Read own → (bytes : List ℕ) × (outcome ≡ client.Message bytes)
  unfolding plain_result result_of
  message_outcome c s own outcome h is = by_box (slice_get ((table_at b k).got c) own) does
    where
      k : ℕ
      k = h.place

      line : h.entry.line ≡ line_of c s Reads
      line = h.last ∙ ap (λ r. line_of c s (last_of (opening_of r))) is

      does : h.entry.does ≡ reads_box (slice_get ((table_at b h.place).got c) own)
      does = h.does ∙ ap (λ (x : Line). operation_of ((table_at b h.place).got c) x.command (Some h.request)) line ∙ ap (λ r. operation_of ((table_at b h.place).got c) Reads (Some r)) is

      missing : (q : ℕ) → outcome ≡ client.Refused (refusal.NoBox q) → ⊥
      missing q e = not_retired h.place q (subst (λ r. IsDue b h.place h.entry.line r (refusal.NoBox q)) is (h.due (refusal.NoBox q) e))

      by_life : (q : ℕ) (box : Mailbox) (live : Bool) → plain_result b h.place h.entry ≡ cond live (Gave q box.bytes) (NoBox q) → (bytes : List ℕ) × (outcome ≡ client.Message bytes)
      by_life q box true e = let told : Some (client.Message box.bytes) ≡ Some outcome = sym (ap (outcome_of b h.entry.line) e) ∙ h.told in (box.bytes, cc)
      by_life q box false e = let told : Some (client.Refused (refusal.NoBox q)) ≡ Some outcome = sym (ap (outcome_of b h.entry.line) e) ∙ h.told in absurd (missing q cc)

      by_mailbox : (q : ℕ) (found : Option Mailbox) → plain_result b h.place h.entry ≡ given q found → (bytes : List ℕ) × (outcome ≡ client.Message bytes)
      by_mailbox q None e = let told : Some (client.Refused (refusal.NoBox q)) ≡ Some outcome = sym (ap (outcome_of b h.entry.line) e) ∙ h.told in absurd (missing q cc)
      by_mailbox q (Some box) e = by_life q box box.live e

      by_box : (o : Option ℕ) → h.entry.does ≡ reads_box o → (bytes : List ℕ) × (outcome ≡ client.Message bytes)
      by_box None e = absurd (h.done e)
      by_box (Some q) e = by_mailbox q (slice_get (T h.place).boxes q) (ap (λ d. result_of b.settings.boxes (plain_of b) (T h.place) h.entry.line d) e)

  -- requests by how they open
  of_register : (r : Request) → Registers ≡ opening_of r → (a : ℕ) × (r ≡ Register a)
  of_register (Register a) e = (a, refl)
  of_register (Write t x) e = absurd (cc e)
  of_register (Read own) e = absurd (cc e)
  of_register (Retire own) e = absurd (cc e)

  of_write : (r : Request) → Begins ≡ opening_of r → (t : ℕ) × (x : List ℕ) × (r ≡ Write t x)
  of_write (Register a) e = absurd (cc e)
  of_write (Write t x) e = (t, x, refl)
  of_write (Read own) e = absurd (cc e)
  of_write (Retire own) e = absurd (cc e)

  of_read : (r : Request) → Reads ≡ opening_of r → (own : ℕ) × (r ≡ Read own)
  of_read (Register a) e = absurd (cc e)
  of_read (Write t x) e = absurd (cc e)
  of_read (Read own) e = (own, refl)
  of_read (Retire own) e = absurd (cc e)

  opening_told : (c s : ℕ) (y : Command) (told : run.Told) → HasLines (lines_of w.journal) c s y → IsToldPlain b c (Answered s y) told → IsMilled (Answered s y) → IsTold y told
  opening_told c s Registers (Ended outcome) lines h mill =
      let r = of_register h.request (opening_is c s Registers outcome h lines) in
      let t = registered_outcome c s r.0 outcome h r.1 in (t.0, ap Ended t.1)
  opening_told c s Begins (Ended outcome) lines h mill =
      let r = of_write h.request (opening_is c s Begins outcome h lines.0) in
      ap Ended (accepted_outcome c s r.0 r.1 outcome h r.2 lines.0)
  opening_told c s Reads (Ended outcome) lines h mill =
      let r = of_read h.request (opening_is c s Reads outcome h lines) in
      let t = message_outcome c s r.0 outcome h r.1 in (t.0, ap Ended t.1)
  opening_told c s Retires (Ended outcome) lines h mill = absurd mill
  opening_told c s Audits (Ended outcome) lines h mill = absurd mill
  opening_told c s Settles (Ended outcome) lines h mill = absurd mill
  opening_told c s y (NoOwnBox own) lines h mill = absurd h

  pub told_as : (x : token.Outcome) (y : run.Outcome) (k : ℕ) → slice_get w.outcomes k ≡ Some x → IsPlainOutcome b w k y → TellsAs x.told y.told
  told_as x y k there p = by_told x.told refl
    where
      by_told : (t : token.Told) → x.told ≡ t → TellsAs t y.told
      by_told (Answered s o) e =
          let same : p.outcome ≡ x = let is = p.is in cc in
          let told : IsToldPlain b y.client (Answered s o) y.told = subst (λ t. IsToldPlain b y.client t y.told) (ap (λ (z : token.Outcome). z.told) same ∙ e) p.told in
          let c : y.client ≡ x.client = p.client ∙ ap (λ (z : token.Outcome). z.client) same in
          let told : IsToldPlain b x.client (Answered s o) y.told = subst (λ c. IsToldPlain b c (Answered s o) y.told) c told in
          let lines : HasLines (lines_of w.journal) x.client s o = subst (IsJournaled (lines_of w.journal) x.client) e (whole.lawful.outcomes k x there) in
          opening_told x.client s o y.told lines told (subst IsMilled e (m.told k x there))
      by_told (token.NoOwnBox own) e = subst IsMilled e (m.told k x there)
