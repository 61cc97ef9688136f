-- The boxes that stood when a write began: later tables have their addresses first, and its count tells how many
-- they are until it is settled.
use Rattle.std.proofs.Common.{◌≡◌, ◌≤◌, ◌<◌, ◌+◌, ◌-◌, ℕ, zero, suc, false, List, [], ◌∷◌, ◌++◌, length, take, drop, Option, Some, None, slice_get, refl, sym, ap, ◌∙◌, subst, inl, inr, arith}
use Rattle.std.proofs.lemmas.Bool.{cases_eq, cases_lt}
use Rattle.std.proofs.lemmas.List.{length-map, take_all}
use Rattle.std.proofs.lemmas.Option.{slice_get_within}
use Rattle.std.proofs.Math.Seq.{take-add}
use Rattle.mailbox_rules.specs.Requests.{request_at, Line, Entry, entry, Operation, BeginWrite, AuditWrite, SettleWrite, Refuse, Command, Registers, Begins, Audits, Settles, Reads, Retires, Request, Register, Write, Read, Retire, operation_of, reads_box, retires_box, lines_of}
use Rattle.mailbox_rules.specs.Tables.{addresses, after_line, table_after, no_writes}
use Rattle.mailbox_rules.proofs.Folds.{boxes_stay, parts_grow}
use Rattle.mailbox_rules.proofs.Outlines.{outlines_agree}
use Rattle.token_rules.specs.Tokens.{World}
use Rattle.token_rules.specs.Run.{line_of, sent_of}
use Rattle.token_rules.specs.Laws.{turn, table_at as journal_table}
use Rattle.token_rules.proofs.Clients.{line_at}
use Rattle.run_rules.specs.Book.{Book, table_at, place, request_of}
use Rattle.run_rules.specs.Values.{writes_at, shares_at}
use Rattle.run_rules.specs.Follows.{Within}
use Rattle.run_rules.specs.Known.{IsWhole}
use Rattle.run_rules.proofs.Counts.{IsBegin, count_kept, count_begun}
use Rattle.run_rules.proofs.Places.{place_is}
use Rattle.run_rules.proofs.LeaderRegistered.{bare_addresses, entry_of}

-- ---- addresses

-- a server's table of shares has the addresses of the table with no writes
pub shares_addresses : (b : Book) (server i : ℕ) → addresses (shares_at b server i).boxes ≡ addresses (table_at b i).boxes
unfolding shares_at
shares_addresses b server i =
    sym (bare_addresses (shares_at b server i).boxes)
    ∙ ap (λ t. addresses t.boxes) (outlines_agree b.settings.boxes b.settings.width b.settings.width no_writes (writes_at b server) (take i b.entries))
    ∙ bare_addresses (table_at b i).boxes

pub shares_length : (b : Book) (server i : ℕ) → length (shares_at b server i).boxes ≡ length (addresses (table_at b i).boxes)
shares_length b server i = sym (length-map (shares_at b server i).boxes (λ m. m.address)) ∙ ap length (shares_addresses b server i)

pub shares_count : (b : Book) (server i c : ℕ) → (shares_at b server i).count c ≡ (table_at b i).count c
unfolding shares_at
shares_count b server i c =
    ap (λ t. t.count c) (outlines_agree b.settings.boxes b.settings.width b.settings.width no_writes (writes_at b server) (take i b.entries))

first_of_all : {X : Type 0} (xs ys : List X) → ((n : ℕ) (x : X) → slice_get xs n ≡ Some x → slice_get ys n ≡ Some x)
    → take (length xs) ys ≡ xs
first_of_all [] ys h = refl
first_of_all (x ∷ xs) [] h = absurd (cc (h zero x refl))
first_of_all (x ∷ xs) (y ∷ ys) h =
    let same : y ≡ x = cc (h zero x refl) in
    ap (λ zs. y ∷ zs) (first_of_all xs ys (λ n z e. h (suc n) z e)) ∙ ap (λ z. z ∷ xs) same

-- the boxes after some entries are the first ones after more
pub addresses_stay : (b : Book) (i j : ℕ) → i ≤ j
    → take (length (addresses (table_at b i).boxes)) (addresses (table_at b j).boxes) ≡ addresses (table_at b i).boxes
addresses_stay b i j low =
    let at : i + (j - i) ≡ j = omega (arith, low) in
    let all : take j b.entries ≡ take i b.entries ++ take (j - i) (drop i b.entries) = ap (λ n. take n b.entries) (sym at) ∙ take-add i (j - i) b.entries in
    let limit = b.settings.boxes in
    let width = b.settings.width in
    first_of_all (addresses (table_at b i).boxes) (addresses (table_at b j).boxes) (λ n a e.
    ap (λ es. slice_get (addresses (table_after limit width no_writes es).boxes) n) all
    ∙ boxes_stay limit width no_writes (take i b.entries) (take (j - i) (drop i b.entries)) n a e)

-- ---- counts

pub entry_there : (xs : List Entry) (i : ℕ) → i < length xs → (e : Entry) × (slice_get xs i ≡ Some e)
entry_there [] i h = absurd (omega (arith, h))
entry_there (x ∷ xs) zero h = (x, refl)
entry_there (x ∷ xs) (suc i) h = entry_there xs i (omega (arith, h))

-- while the lane begins no other write its count stays
count_stays : (b : Book) (i n c : ℕ) (x : Line) → slice_get b.entries i ≡ Some (entry x BeginWrite) → x.lane ≡ c
    → suc i + n ≤ length b.entries
    → ((k : ℕ) (e : Entry) → i < k → k < suc i + n → slice_get b.entries k ≡ Some e → IsBegin c e.line e.does → ⊥)
    → (table_at b (suc i + n)).count c ≡ length (addresses (table_at b i).boxes)
count_stays b i zero c x e mine low none =
    let limit = b.settings.boxes in
    let width = b.settings.width in
    let at : suc i + 0 ≡ suc i = omega arith in
    ap (λ m. (table_at b m).count c) at
    ∙ ap (λ t. t.count c) (parts_grow limit width no_writes b.entries i (entry x BeginWrite) e)
    ∙ ap (λ d. (after_line limit width no_writes (table_at b i) x BeginWrite).count d) (sym mine)
    ∙ count_begun limit width no_writes (table_at b i) x
    ∙ sym (length-map (table_at b i).boxes (λ m. m.address))
count_stays b i (suc n) c x e mine low none =
    let limit = b.settings.boxes in
    let width = b.settings.width in
    let at : suc i + suc n ≡ suc (suc i + n) = omega arith in
    let next = entry_there b.entries (suc i + n) (omega (arith, low)) in
    ap (λ m. (table_at b m).count c) at
    ∙ ap (λ t. t.count c) (parts_grow limit width no_writes b.entries (suc i + n) next.0 next.1)
    ∙ count_kept limit width no_writes (table_at b (suc i + n)) next.0.line next.0.does c (none (suc i + n) next.0 (omega arith) (omega arith) next.1)
    ∙ count_stays b i n c x e mine (omega (arith, low)) (λ k d l m. none k d l (omega (arith, m)))

-- ---- the commands of a client's write

pub whole_within : (b : Book) (v : World) → IsWhole b v → Within b v
whole_within b v h = record {
  sent = λ c. all_of _ _ (h.sent c);
  commands = all_of _ _ h.commands;
  journal = all_of _ _ h.journal;
}
  where
    all_of : {X : Type 0} (xs ys : List X) → xs ≡ ys → xs ≡ take (length xs) ys
    all_of xs ys e = sym (take_all (length xs) xs (omega arith)) ∙ ap (take (length xs)) e

-- a command stands at its place
pub place_in : (b : Book) (v : World) (c s i : ℕ) (y : Command) → IsWhole b v → b.foreign c ≡ false
    → slice_get b.commands i ≡ Some (line_of c s y) → place b c s y ≡ i
place_in b v c s i y h hon e =
    place_is b v h.lawful.stages c s i y h.lawful.coherent (whole_within b v h) (ap (λ f. f c) h.foreign ∙ hon)
    (ap (λ xs. slice_get xs i) h.commands ∙ e)

-- what an entry of a client's write does
abbrev pub writes_by : Command → Operation
writes_by Begins = BeginWrite
writes_by Audits = AuditWrite
writes_by Settles = SettleWrite
writes_by y = Refuse

-- the commands of writes
abbrev pub OfWrite : Command → Type 0
OfWrite Begins = Unit {0}
OfWrite Audits = Unit {0}
OfWrite Settles = Unit {0}
OfWrite y = ⊥

write_does : (got : List ℕ) (y : Command) (target : ℕ) (message : List ℕ) → OfWrite y
    → operation_of got y (Some (Write target message)) ≡ writes_by y
write_does got Begins target message h = refl
write_does got Audits target message h = refl
write_does got Settles target message h = refl
write_does got y target message h = absurd h

pub entry_writes : (b : Book) (v : World) (c s i : ℕ) (y : Command) (target : ℕ) (message : List ℕ) → IsWhole b v
    → b.foreign c ≡ false → request_of b c s ≡ Some (Write target message) → OfWrite y
    → slice_get (lines_of b.entries) i ≡ Some (line_of c s y)
    → slice_get b.entries i ≡ Some (entry (line_of c s y) (writes_by y))
entry_writes b v c s i y target message h hon q of e =
    let found = entry_of b.entries i (line_of c s y) e in
    let here : slice_get v.journal i ≡ Some found.0 = ap (λ es. slice_get es i) h.journal ∙ found.1.0 in
    let honest : v.foreign found.0.line.lane ≡ false = ap (λ x. v.foreign x.lane) found.1.1 ∙ ap (λ f. f c) h.foreign ∙ hon in
    let asked = h.lawful.operations i found.0 here honest in
    let same : request_at (sent_of v) found.0.line.lane found.0.line.serial ≡ Some (Write target message) =
    ap (λ x. request_at (sent_of v) x.lane x.serial) found.1.1 ∙ ap (λ rs. slice_get rs (s - 1)) (h.sent c) ∙ q in
    let mine : asked.sent.request ≡ Write target message = some_same _ _ (sym asked.sent.is ∙ same) in
    let got = (journal_table v i).got found.0.line.lane in
    let does : found.0.does ≡ writes_by y =
    asked.does ∙ ap (λ r. operation_of got found.0.line.command (Some r)) mine
    ∙ ap (λ (x : Line). operation_of got x.command (Some (Write target message))) found.1.1
    ∙ write_does got y target message of in
    found.1.0 ∙ ap Some (ap (λ x. entry x found.0.does) found.1.1 ∙ ap (entry (line_of c s y)) does)
  where
    some_same : (x z : Request) → Some x ≡ Some z → x ≡ z
    some_same x z e = cc

-- ---- the count of a write that is settled

begins_alone : (got : List ℕ) (y : Command) (r : Request) → operation_of got y (Some r) ≡ BeginWrite → y ≡ Begins
begins_alone got Begins r e = refl
begins_alone got Registers (Register address) e = absurd (cc e)
begins_alone got Audits (Write target message) e = absurd (cc e)
begins_alone got Settles (Write target message) e = absurd (cc e)
begins_alone got Reads (Read own) e = absurd (by_found (slice_get got own) e)
  where
    by_found : (found : Option ℕ) → reads_box found ≡ BeginWrite → ⊥
    by_found (Some n) e = cc e
    by_found None e = cc e
begins_alone got Retires (Retire own) e = absurd (by_found (slice_get got own) e)
  where
    by_found : (found : Option ℕ) → retires_box found ≡ BeginWrite → ⊥
    by_found (Some n) e = cc e
    by_found None e = cc e
begins_alone got y (Register address) e = absurd (cc e)
begins_alone got y (Write target message) e = absurd (cc e)
begins_alone got y (Read own) e = absurd (cc e)
begins_alone got y (Retire own) e = absurd (cc e)

begins_by : (c : ℕ) (x : Line) (does : Operation) → IsBegin c x does → (does ≡ BeginWrite) × (x.lane ≡ c)
begins_by c x BeginWrite h = (refl, h)
begins_by c x does h = absurd h

-- an entry that begins a write of a client is of a begin
begin_line : (b : Book) (v : World) (c k : ℕ) (e : Entry) → IsWhole b v → b.foreign c ≡ false
    → slice_get b.entries k ≡ Some e → IsBegin c e.line e.does → e.line ≡ line_of c e.line.serial Begins
begin_line b v c k e h hon is k_begins =
    let begins = begins_by c e.line e.does k_begins in
    let here : slice_get v.journal k ≡ Some e = ap (λ es. slice_get es k) h.journal ∙ is in
    let honest : v.foreign e.line.lane ≡ false = ap v.foreign begins.1 ∙ ap (λ f. f c) h.foreign ∙ hon in
    let asked = h.lawful.operations k e here honest in
    let command = begins_alone ((journal_table v k).got e.line.lane) e.line.command asked.sent.request (sym asked.does ∙ begins.0) in
    ap (λ l. line_of l e.line.serial e.line.command) begins.1 ∙ ap (line_of c e.line.serial) command

-- from a begin to a later command of the same write, and while that is carried out
pub counted_until : (b : Book) (v : World) (c s i j : ℕ) (y : Command) → IsWhole b v → b.foreign c ≡ false
    → slice_get b.entries i ≡ Some (entry (line_of c s Begins) BeginWrite)
    → slice_get (lines_of b.entries) j ≡ Some (line_of c s y) → 0 < turn y
    → (i < j) × ((table_at b j).count c ≡ length (addresses (table_at b i).boxes))
counted_until b v c s i j y h hon begin end after =
    let honest : v.foreign c ≡ false = ap (λ f. f c) h.foreign ∙ hon in
    let lines : lines_of v.journal ≡ lines_of b.entries = ap (λ es. lines_of es) h.journal in
    let first : slice_get (lines_of v.journal) i ≡ Some (line_of c s Begins) = ap (λ xs. slice_get xs i) lines ∙ line_at b.entries i _ begin in
    let last : slice_get (lines_of v.journal) j ≡ Some (line_of c s y) = ap (λ xs. slice_get xs j) lines ∙ end in
    let low : i < j = elim (cases_lt i j) [
      | inl l ↦ l
      | inr l ↦ elim (cases_eq i j) [
        | inl e ↦ absurd (let same : line_of c s Begins ≡ line_of c s y = some_same _ _ (sym first ∙ ap (λ n. slice_get (lines_of v.journal) n) e ∙ last) in
            let never : 0 ≡ turn y = ap (λ (x : Line). turn x.command) same in omega (arith, never, after))
        | inr n ↦ absurd (elim (h.lawful.order j i (line_of c s y) (line_of c s Begins) (omega (arith, l, n)) last first refl honest) [
          | inl less ↦ omega (arith, less)
          | inr more ↦ let m = more.1 in omega (arith, m, after)
        ])
      ]
    ] in
    let within = slice_get_within (lines_of b.entries) j _ end in
    let size = length-map b.entries (λ e. e.line) in
    let at : suc i + (j - suc i) ≡ j = omega (arith, low) in (
      low,
      subst (λ n. (table_at b n).count c ≡ length (addresses (table_at b i).boxes)) at
          (count_stays b i (j - suc i) c (line_of c s Begins) begin refl (omega (arith, low, within, size)) (λ k e above below is begins.
          let line = begin_line b v c k e h hon is begins in
          let here : slice_get (lines_of v.journal) k ≡ Some (line_of c e.line.serial Begins) = ap (λ xs. slice_get xs k) lines ∙ line_at b.entries k e is ∙ ap Some line in
          elim (h.lawful.order i k (line_of c s Begins) (line_of c e.line.serial Begins) above first here refl honest) [
            | inr same ↦ let never = same.1 in omega (arith, never)
            | inl more ↦ elim (h.lawful.order k j (line_of c e.line.serial Begins) (line_of c s y) (omega (arith, below, at)) here last refl honest) [
              | inl less ↦ omega (arith, less, more)
              | inr same ↦ let is = same.0 in omega (arith, is, more)
            ]
          ])),
    )
  where
    some_same : (x z : Line) → Some x ≡ Some z → x ≡ z
    some_same x z e = cc
