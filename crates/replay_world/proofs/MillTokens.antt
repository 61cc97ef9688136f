-- Registers, writes and reads, each worked off before the next is asked: what the token run of them comes to.
use Rattle.std.proofs.Common.{◌≡◌, ℕ, zero, suc, ◌+◌, ◌-◌, ◌*◌, ◌/◌, ◌%◌, ◌<◌, ◌≤◌, inl, inr, Bool, true, false, cond, not, nat_eq, nat_le, nat_lt, ◌==◌, List, [], ◌∷◌, ◌++◌, length, position, replicate, Option, Some, None, slice_get, arith, refl, sym, ◌∙◌, ap, subst, length-append, append_assoc}
use Rattle.std.proofs.lemmas.Bool.{cases_eq, eq-eqb, ne_eqb, le-ltb, lt-leb}
use Rattle.std.specs.List.{prefix_len}
use Rattle.mailbox_rules.specs.Requests.{AddBox, AuditWrite, BeginWrite, Command, Registers, Begins, Audits, Settles, Reads, Entry, Line, Operation, RetireBox, Request, Register, SettleWrite, Write, Read, entry, reads_box}
use Rattle.mailbox_rules.specs.Tables.{Mailbox, Table, addresses, after_line, after_register, box_of, boxes_cleared, no_writes}
use Rattle.token_rules.specs.Tokens.{Answered, NoOwnBox, Oracle, Outcome, Told, World, start}
use Rattle.token_rules.specs.Run.{Ask, Event, Finish, happens, is_refused, line_of, run}
use Rattle.token_rules.proofs.Cases.{acks}
use Rattle.token_rules.proofs.Lists.{get_more}
use Rattle.replay_world.proofs.QuietRequests.{Leaves, Rests, short_leaves, write_leaves}

-- ---- lists

abbrev pub firsts : (ℕ → ℕ) → ℕ → List ℕ
firsts addr zero = []
firsts addr (suc k) = firsts addr k ++ addr k ∷ []

pub length-firsts : (addr : ℕ → ℕ) (k : ℕ) → length (firsts addr k) ≡ k
length-firsts addr zero = refl
length-firsts addr (suc k) = let e = length-firsts addr k in let m = length-append (firsts addr k) (addr k ∷ []) in omega (arith, e, m)

pub get-firsts : (addr : ℕ → ℕ) (k i a : ℕ) → slice_get (firsts addr k) i ≡ Some a → (i < k) × (addr i ≡ a)
get-firsts addr zero i a e = absurd (cc e)
get-firsts addr (suc k) i a e = elim (get_more (firsts addr k) (addr k) i a e) [
  | inl old ↦ let r = get-firsts addr k i a old.1 in (omega (arith, r.0), r.1)
  | inr new ↦ let size = length-firsts addr k in let at = new.0 in (omega (arith, size, at), ap addr (at ∙ size) ∙ new.1)
]

never_len : (a : ℕ) (xs : List ℕ) → ((i : ℕ) → slice_get xs i ≡ Some a → ⊥) → prefix_len (λ x. not (x == a)) xs ≡ length xs
never_len a [] h = refl
never_len a (x ∷ xs) h =
    let t : nat_eq x a ≡ false = ne_eqb x a (λ e. h zero (ap Some e)) in
    let rest = never_len a xs (λ i e. h (suc i) e) in
    rw t (omega (arith, rest))

pub never : (a : ℕ) (xs : List ℕ) → ((i : ℕ) → slice_get xs i ≡ Some a → ⊥) → position (λ other. other == a) xs ≡ None
never a xs h =
    let e = never_len a xs h in
    let t : nat_lt (prefix_len (λ x. not (x == a)) xs) (length xs) ≡ false = le-ltb _ _ (omega (arith, e)) in
    rw t refl

pub length_addresses : (boxes : List Mailbox) → length (addresses boxes) ≡ length boxes
length_addresses [] = refl
length_addresses (x ∷ xs) = ap suc (length_addresses xs)

pub addresses_more : (xs : List Mailbox) (x : Mailbox) → addresses (xs ++ x ∷ []) ≡ addresses xs ++ x.address ∷ []
addresses_more [] x = refl
addresses_more (y ∷ ys) x = ap (λ rest. y.address ∷ rest) (addresses_more ys x)

pub addresses_cleared : (width : ℕ) (stays : Bool) (xs : List Mailbox) (n : ℕ) → addresses (boxes_cleared width stays xs n) ≡ addresses xs
unfolding boxes_cleared
addresses_cleared width stays [] n = refl
addresses_cleared width stays (x ∷ xs) zero = ap (λ a. a ∷ addresses xs) (at_life x.live)
  where
    at_life : (live : Bool) → (cond live (record x { bytes = replicate width 0; live = stays }) x).address ≡ x.address
    at_life true = refl
    at_life false = refl
addresses_cleared width stays (x ∷ xs) (suc n) = ap (λ rest. x.address ∷ rest) (addresses_cleared width stays xs n)

-- ---- what is told

abbrev pub same_opening : Command → Command → Bool
same_opening Registers Registers = true
same_opening Begins Begins = true
same_opening Reads Reads = true
same_opening x y = false

abbrev pub opens : Command → Told → Bool
opens k (Answered serial opening) = same_opening k opening
opens k (NoOwnBox own) = false

abbrev pub opened : Command → List Outcome → ℕ
opened k [] = 0
opened k (x ∷ xs) = cond (opens k x.told) 1 0 + opened k xs

opened_more : (k : Command) (xs : List Outcome) (x : Outcome) → opened k (xs ++ x ∷ []) ≡ opened k xs + cond (opens k x.told) 1 0
opened_more k [] x = omega arith
opened_more k (y ∷ ys) x = let e = opened_more k ys x in omega (arith, e)

abbrev pub IsMilled : Told → Type 0
IsMilled (Answered serial Registers) = Unit {0}
IsMilled (Answered serial Begins) = Unit {0}
IsMilled (Answered serial Reads) = Unit {0}
IsMilled told = ⊥

-- ---- entries

pub record FirstEntry (addr : ℕ → ℕ) (i : ℕ) (e : Entry) : Type 0 where
  pub command : e.line.command ≡ Registers
  pub does : e.does ≡ AddBox (addr i)

abbrev pub IsOther : Command → Type 0
IsOther Registers = ⊥
IsOther x = Unit {0}

abbrev pub DoesOther : Operation → Type 0
DoesOther (AddBox address) = ⊥
DoesOther (RetireBox box) = ⊥
DoesOther does = Unit {0}

abbrev pub IsEntry : (ℕ → ℕ) → ℕ → Entry → Type 0
IsEntry addr i e = (i < 64 → FirstEntry addr i e) × (64 ≤ i → IsOther e.line.command × DoesOther e.does)

abbrev pub AreEntries : (ℕ → ℕ) → List Entry → Type 0
AreEntries addr es = (i : ℕ) (e : Entry) → slice_get es i ≡ Some e → IsEntry addr i e

one_entry : (addr : ℕ → ℕ) (es : List Entry) (e : Entry) → AreEntries addr es → IsEntry addr (length es) e → AreEntries addr (es ++ e ∷ [])
one_entry addr es e h k i x at = elim (get_more es e i x at) [
  | inl old ↦ h i x old.1
  | inr new ↦ subst (λ i. IsEntry addr i x) (sym new.0) (subst (IsEntry addr (length es)) new.1 k)
]

other_entry : (addr : ℕ → ℕ) (i : ℕ) (e : Entry) → 64 ≤ i → IsOther e.line.command → DoesOther e.does → IsEntry addr i e
other_entry addr i e high command does = ((λ low. absurd (omega (arith, high, low))), (λ h. (command, does)))

-- ---- after so many registers, writes and reads

pub record Milled (addr : ℕ → ℕ) (k writes reads : ℕ) (w : World) : Type 0 where
  pub rests : Rests w
  pub limit : w.limit ≡ 64
  pub boxes : addresses w.table.boxes ≡ firsts addr k
  pub got : (c : ℕ) → c < 20 → length (w.table.got c) ≡ (k + 19 - c) / 20
  pub lines : length w.journal ≡ k + 3 * writes + reads
  pub entries : AreEntries addr w.journal
  pub count : length w.outcomes ≡ k + writes + reads
  pub told : (i : ℕ) (x : Outcome) → slice_get w.outcomes i ≡ Some x → IsMilled x.told
  pub registered : opened Registers w.outcomes ≡ k
  pub begun : opened Begins w.outcomes ≡ writes
  pub read : opened Reads w.outcomes ≡ reads

abbrev pub pair : Oracle → World → ℕ → Request → World
pair o w c r = happens o (happens o w (Ask c r)) (Finish c)

told_more : (os : List Outcome) (x : Outcome) → ((i : ℕ) (y : Outcome) → slice_get os i ≡ Some y → IsMilled y.told) → IsMilled x.told
    → (i : ℕ) (y : Outcome) → slice_get (os ++ x ∷ []) i ≡ Some y → IsMilled y.told
told_more os x h k i y at = elim (get_more os x i y at) [
  | inl old ↦ h i y old.1
  | inr new ↦ subst (λ (y : Outcome). IsMilled y.told) new.1 k
]

module _ (o : Oracle) (addr : ℕ → ℕ) (apart : (i j : ℕ) → i < 64 → j < 64 → addr i ≡ addr j → i ≡ j) where
  -- the table after one more register
  registered_table : (w : World) (k : ℕ) (line : Line) → k < 64 → w.limit ≡ 64 → addresses w.table.boxes ≡ firsts addr k
      → let n = length w.table.boxes in
      after_line w.limit w.width no_writes w.table line (AddBox (addr k))
      ≡ record {
        boxes = w.table.boxes ++ record { address = addr k; lane = line.lane; serial = line.serial; bytes = replicate w.width 0; live = true } ∷ [];
        got = λ d. cond (nat_eq d line.lane) (w.table.got line.lane ++ n ∷ []) (w.table.got d);
        count = w.table.count;
      }
  unfolding after_line after_register
  registered_table w k line low limit boxes =
      let none : box_of (addr k) w.table.boxes ≡ None =
      ap (position (λ other. other == addr k)) boxes
      ∙ never (addr k) (firsts addr k) (λ i e. let r = get-firsts addr k i (addr k) e in let l = r.0 in let same = apart i k (omega (arith, l, low)) low r.1 in omega (arith, l, same)) in
      let size = length_addresses w.table.boxes in
      let of = length-firsts addr k in
      let same : length (addresses w.table.boxes) ≡ length (firsts addr k) = ap length boxes in
      let room : nat_le w.limit (length w.table.boxes) ≡ false = lt-leb _ _ (omega (arith, size, of, same, limit, low)) in
      rw (none, room) refl

  register_step : (w : World) (k : ℕ) → k < 64 → Milled addr k 0 0 w → Milled addr (suc k) 0 0 (pair o w (k % 20) (Register (addr k)))
  unfolding acks is_refused
  register_step w k low h =
      let c = k % 20 in
      let r = Register (addr k) in
      let v = pair o w c r in
      let l : Leaves w v c r = short_leaves o w c r h.rests refl (λ v. refl) refl in
      let x = line_of c ((w.lanes c).serial + 1) Registers in
      let e : Entry = entry x (AddBox (addr k)) in
      let told : Outcome = record { client = c; request = (w.requests c).told; told = Answered ((w.lanes c).serial + 1) Registers } in
      let table = l.table ∙ registered_table w k x low h.limit h.boxes in
      let new : Mailbox = record { address = addr k; lane = c; serial = x.serial; bytes = replicate w.width 0; live = true } in
      let lines = h.lines in
      let count = h.count in
      let more = length-append w.journal (e ∷ []) in
      let outs = length-append w.outcomes (told ∷ []) in
      record {
        rests = l.rests;
        limit = l.limit ∙ h.limit;
        boxes = ap (λ (t : Table). addresses t.boxes) table ∙ addresses_more w.table.boxes new ∙ ap (λ xs. xs ++ addr k ∷ []) h.boxes;
        got = λ d few. ap (λ (t : Table). length (t.got d)) table ∙ elim (cases_eq d c) [
          | inl same ↦
              let t : nat_eq d c ≡ true = eq-eqb d c same in
              let was = h.got c (omega arith) in
              let size = length-append (w.table.got c) (length w.table.boxes ∷ []) in
              rw t (omega (arith, same, was, size))
          | inr other ↦
              let t : nat_eq d c ≡ false = ne_eqb d c other in
              let was = h.got d few in
              rw t (was ∙ apart_from k d few other)
        ];
        lines = ap length l.journal ∙ omega (arith, more, lines);
        entries = subst (AreEntries addr) (sym l.journal) (one_entry addr w.journal e h.entries ((λ below. record { command = refl; does = ap (λ i. AddBox (addr i)) (omega (arith, lines)) }), (λ high. absurd (omega (arith, high, lines, low)))));
        count = ap length l.outcomes ∙ omega (arith, outs, count);
        told = subst (λ os. (i : ℕ) (y : Outcome) → slice_get os i ≡ Some y → IsMilled y.told) (sym l.outcomes) (told_more w.outcomes told h.told tt);
        registered = ap (opened Registers) l.outcomes ∙ opened_more Registers w.outcomes told ∙ (let b = h.registered in omega (arith, b));
        begun = ap (opened Begins) l.outcomes ∙ opened_more Begins w.outcomes told ∙ (let b = h.begun in omega (arith, b));
        read = ap (opened Reads) l.outcomes ∙ opened_more Reads w.outcomes told ∙ (let b = h.read in omega (arith, b));
      }
    where
      apart_from : (k d : ℕ) → d < 20 → (d ≡ k % 20 → ⊥) → (k + 19 - d) / 20 ≡ (suc k + 19 - d) / 20
      apart_from k d few other = omega (arith, few, other)

  write_step : (w : World) (j c target : ℕ) (message : List ℕ) → Milled addr 64 j 0 w → Milled addr 64 (suc j) 0 (pair o w c (Write target message))
  unfolding after_line
  write_step w j c target message h =
      let v = pair o w c (Write target message) in
      let l : Leaves w v c (Write target message) = write_leaves o w c target message h.rests in
      let sn = (w.lanes c).serial + 1 in
      let e1 : Entry = entry (line_of c sn Begins) BeginWrite in
      let e2 : Entry = entry (line_of c sn Audits) AuditWrite in
      let e3 : Entry = entry (line_of c sn Settles) SettleWrite in
      let told : Outcome = record { client = c; request = (w.requests c).told; told = Answered sn Begins } in
      let lines = h.lines in
      let count = h.count in
      let more = length-append w.journal (e1 ∷ e2 ∷ e3 ∷ []) in
      let one = length-append w.journal (e1 ∷ []) in
      let two = length-append (w.journal ++ e1 ∷ []) (e2 ∷ []) in
      let outs = length-append w.outcomes (told ∷ []) in
      let all : ((w.journal ++ e1 ∷ []) ++ e2 ∷ []) ++ e3 ∷ [] ≡ w.journal ++ e1 ∷ e2 ∷ e3 ∷ [] = simp append_assoc in
      record {
        rests = l.rests;
        limit = l.limit ∙ h.limit;
        boxes = ap (λ (t : Table). addresses t.boxes) l.table ∙ h.boxes;
        got = λ d few. ap (λ (t : Table). length (t.got d)) l.table ∙ h.got d few;
        lines = ap length l.journal ∙ omega (arith, more, lines);
        entries = subst (AreEntries addr) (sym (l.journal ∙ sym all))
            (one_entry addr ((w.journal ++ e1 ∷ []) ++ e2 ∷ []) e3
            (one_entry addr (w.journal ++ e1 ∷ []) e2
            (one_entry addr w.journal e1 h.entries (other_entry addr (length w.journal) e1 (omega (arith, lines)) tt tt))
            (other_entry addr (length (w.journal ++ e1 ∷ [])) e2 (omega (arith, lines, one)) tt tt))
            (other_entry addr (length ((w.journal ++ e1 ∷ []) ++ e2 ∷ [])) e3 (omega (arith, lines, one, two)) tt tt));
        count = ap length l.outcomes ∙ omega (arith, outs, count);
        told = subst (λ os. (i : ℕ) (y : Outcome) → slice_get os i ≡ Some y → IsMilled y.told) (sym l.outcomes) (told_more w.outcomes told h.told tt);
        registered = ap (opened Registers) l.outcomes ∙ opened_more Registers w.outcomes told ∙ (let b = h.registered in omega (arith, b));
        begun = ap (opened Begins) l.outcomes ∙ opened_more Begins w.outcomes told ∙ (let b = h.begun in omega (arith, b));
        read = ap (opened Reads) l.outcomes ∙ opened_more Reads w.outcomes told ∙ (let b = h.read in omega (arith, b));
      }

  -- a read changes no address, and no box that a client got
  read_table : (w : World) (line : Line) (box : Option ℕ) → let t = after_line w.limit w.width no_writes w.table line (reads_box box) in
      (addresses t.boxes ≡ addresses w.table.boxes) × (t.got ≡ w.table.got)
  unfolding after_line
  read_table w line (Some b) = (addresses_cleared w.width true w.table.boxes b, refl)
  read_table w line None = (refl, refl)

  reads_quiet : (box : Option ℕ) → DoesOther (reads_box box)
  reads_quiet (Some b) = tt
  reads_quiet None = tt

  read_step : (w : World) (n i : ℕ) → i < 64 → Milled addr 64 n i w → Milled addr 64 n (suc i) (pair o w (i % 20) (Read (i / 20)))
  unfolding acks is_refused
  read_step w n i low h =
      let c = i % 20 in
      let r = Read (i / 20) in
      let v = pair o w c r in
      let own = h.got c (omega arith) in
      let has : nat_le (length (w.table.got c)) (i / 20) ≡ false = lt-leb _ _ (omega (arith, own, low)) in
      let l : Leaves w v c r = short_leaves o w c r h.rests has (λ v. refl) refl in
      let x = line_of c ((w.lanes c).serial + 1) Reads in
      let box = slice_get (w.table.got c) (i / 20) in
      let e : Entry = entry x (reads_box box) in
      let told : Outcome = record { client = c; request = (w.requests c).told; told = Answered ((w.lanes c).serial + 1) Reads } in
      let table = read_table w x box in
      let lines = h.lines in
      let count = h.count in
      let more = length-append w.journal (e ∷ []) in
      let outs = length-append w.outcomes (told ∷ []) in
      record {
        rests = l.rests;
        limit = l.limit ∙ h.limit;
        boxes = ap (λ (t : Table). addresses t.boxes) l.table ∙ table.0 ∙ h.boxes;
        got = λ d few. ap (λ (t : Table). length (t.got d)) l.table ∙ ap (λ got. length (got d)) table.1 ∙ h.got d few;
        lines = ap length l.journal ∙ omega (arith, more, lines);
        entries = subst (AreEntries addr) (sym l.journal) (one_entry addr w.journal e h.entries (other_entry addr (length w.journal) e (omega (arith, lines)) tt (reads_quiet box)));
        count = ap length l.outcomes ∙ omega (arith, outs, count);
        told = subst (λ os. (i : ℕ) (y : Outcome) → slice_get os i ≡ Some y → IsMilled y.told) (sym l.outcomes) (told_more w.outcomes told h.told tt);
        registered = ap (opened Registers) l.outcomes ∙ opened_more Registers w.outcomes told ∙ (let b = h.registered in omega (arith, b));
        begun = ap (opened Begins) l.outcomes ∙ opened_more Begins w.outcomes told ∙ (let b = h.begun in omega (arith, b));
        read = ap (opened Reads) l.outcomes ∙ opened_more Reads w.outcomes told ∙ (let b = h.read in omega (arith, b));
      }

  -- ---- the three lists

  abbrev both : ℕ → Request → List Event
  both c r = Ask c r ∷ Finish c ∷ []

  abbrev pub registers : ℕ → List Event
  registers zero = []
  registers (suc i) = registers i ++ both (i % 20) (Register (addr i))

  abbrev pub reads_of : ℕ → List Event
  reads_of zero = []
  reads_of (suc i) = reads_of i ++ both (i % 20) (Read (i / 20))

  abbrev pub writes_of : (ℕ → List ℕ) → ℕ → List Event
  writes_of message zero = []
  writes_of message (suc j) = writes_of message j ++ both ((7 * j + 3) % 20) (Write (addr (11 * j % 64)) (message j))

  run_append : (w : World) (xs ys : List Event) → run o w (xs ++ ys) ≡ run o (run o w xs) ys
  unfolding run
  run_append w [] ys = refl
  run_append w (x ∷ xs) ys = run_append (happens o w x) xs ys

  run_both : (w : World) (c : ℕ) (r : Request) → run o w (both c r) ≡ pair o w c r
  unfolding run
  run_both w c r = refl

  after_registers : (w : World) (k : ℕ) → k ≤ 64 → Milled addr 0 0 0 w → Milled addr k 0 0 (run o w (registers k))
  unfolding run
  after_registers w zero low h = h
  after_registers w (suc k) low h =
      let c = k % 20 in
      let r = Register (addr k) in
      subst (Milled addr (suc k) 0 0) (sym (run_append w (registers k) (both c r) ∙ run_both (run o w (registers k)) c r))
      (register_step (run o w (registers k)) k (omega arith) (after_registers w k (omega arith) h))

  after_writes : (message : ℕ → List ℕ) (w : World) (n : ℕ) → Milled addr 64 0 0 w → Milled addr 64 n 0 (run o w (writes_of message n))
  unfolding run
  after_writes message w zero h = h
  after_writes message w (suc j) h =
      let c = (7 * j + 3) % 20 in
      let r = Write (addr (11 * j % 64)) (message j) in
      subst (Milled addr 64 (suc j) 0) (sym (run_append w (writes_of message j) (both c r) ∙ run_both (run o w (writes_of message j)) c r))
      (write_step (run o w (writes_of message j)) j c (addr (11 * j % 64)) (message j) (after_writes message w j h))

  after_reads : (w : World) (n i : ℕ) → i ≤ 64 → Milled addr 64 n 0 w → Milled addr 64 n i (run o w (reads_of i))
  unfolding run
  after_reads w n zero low h = h
  after_reads w n (suc i) low h =
      let c = i % 20 in
      let r = Read (i / 20) in
      subst (Milled addr 64 n (suc i)) (sym (run_append w (reads_of i) (both c r) ∙ run_both (run o w (reads_of i)) c r))
      (read_step (run o w (reads_of i)) n i (omega arith) (after_reads w n i (omega arith) h))

  opened_mill : (width : ℕ) (foreign : ℕ → Bool) → ((c : ℕ) → foreign c ≡ false) → Milled addr 0 0 0 (start width 64 1 foreign)
  opened_mill width foreign free = record {
    rests = record {
      none = refl;
      carried = refl;
      wide = omega arith;
      free = free;
      lanes = λ c. record { step = refl; leader = omega arith; helper = omega arith; waiting = refl; sent = refl };
    };
    limit = refl;
    boxes = refl;
    got = λ c few. omega (arith, few);
    lines = refl;
    entries = λ i e at. absurd (cc at);
    count = refl;
    told = λ i x at. absurd (cc at);
    registered = refl;
    begun = refl;
    read = refl;
  }

  pub milled : (message : ℕ → List ℕ) (width : ℕ) (foreign : ℕ → Bool) (n : ℕ) → ((c : ℕ) → foreign c ≡ false)
      → Milled addr 64 n 64 (run o (start width 64 1 foreign) ((registers 64 ++ writes_of message n) ++ reads_of 64))
  milled message width foreign n free =
      let w = start width 64 1 foreign in
      let w1 = run o w (registers 64) in
      let w2 = run o w1 (writes_of message n) in
      subst (Milled addr 64 n 64) (sym (run_append w (registers 64 ++ writes_of message n) (reads_of 64) ∙ ap (λ v. run o v (reads_of 64)) (run_append w (registers 64) (writes_of message n))))
      (after_reads w2 n 64 (omega arith) (after_writes message w1 n (after_registers w 64 (omega arith) (opened_mill width foreign free))))
