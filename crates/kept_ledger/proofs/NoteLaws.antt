-- A record tells the note whose record it is.
use Rattle.std.proofs.Common.{◌≡◌, ℕ, zero, suc, ◌==◌, List, [], ◌∷◌, ◌++◌, Option, Some, None, length, take}
use Rattle.std.proofs.Common.{drop, get_or, refl, sym, ◌∙◌, ap, subst, arith, false, Bool, true, ◌≤◌, ◌<◌}
use Rattle.std.proofs.Common.{◌^◌, ◌+◌}
use Rattle.std.specs.Prelude.{if◌then◌else◌, IfSome}
use Rattle.std.specs.Int.{w16, w32, w64, w128, to_be_bytes, from_be_bytes}
use Rattle.std.proofs.lemmas.Bool.Decides.{nat_tests}
use Rattle.std.proofs.lemmas.Nat.{from_be_bytes-to_be_bytes_2, from_be_bytes-to_be_bytes_4}
use Rattle.std.proofs.lemmas.Nat.{from_be_bytes-to_be_bytes_8}
use Rattle.frame_rules.proofs.Digits.{be_again}
use Rattle.desk_texts.specs.Days.{IsDay}
use Rattle.desk_texts.specs.declared.day.Day.{Day}
use Rattle.kept_ledger.specs.declared.entry.Denial.{Denial}
use Rattle.kept_ledger.specs.declared.entry.Denial.TheVariants.{Taken, Full, Retired}
use Rattle.kept_ledger.specs.declared.entry.Denied.{Denied as DeniedAt}
use Rattle.kept_ledger.specs.declared.entry.Handling.{Handling}
use Rattle.kept_ledger.specs.declared.entry.Handling.TheVariants.{Shown, Written}
use Rattle.kept_ledger.specs.declared.entry.Marked.{Marked as MarkedLetter}
use Rattle.kept_ledger.specs.declared.entry.OwnBox.{OwnBox}
use Rattle.kept_ledger.specs.declared.entry.Reading.{Reading}
use Rattle.kept_ledger.specs.declared.machine.KeptLedger.{KeptLedger}
use Rattle.kept_ledger.specs.declared.task.Task.TheVariants.{Register, Read, Retire}
use Rattle.kept_ledger.specs.Machines.{HasMemory, HasMemoryFor}
use Rattle.kept_ledger.specs.Notes.{Wanted, Noted, Named, Closed, Retiring, Marked, Asked, Time, Heard}
use Rattle.kept_ledger.specs.Notes.{GivenUp, Owned, Denied, Carried, AreAddresses, IsNote, IsWanted}
use Rattle.kept_ledger.specs.Notes.{address_bytes, day_bytes, denial_byte, note_record, until_bytes}
use Rattle.kept_ledger.specs.Notes.{FitsRecord, wanted_bytes}
use Rattle.node_journal.specs.Records.{IsSized}
use Rattle.std.proofs.lemmas.List.{length-append}
use Rattle.kept_ledger.proofs.AddressLaws.{flat_size}
use Rattle.kept_ledger.proofs.TextLaws.{name_short}

-- ---- addresses

chunks : ℕ → List ℕ → List ℕ
chunks zero bytes = []
chunks (suc k) bytes = from_be_bytes w128 (take 16 bytes) ∷ chunks k (drop 16 bytes)

chunks_back : (addresses name : List ℕ) → AreAddresses addresses
    → chunks (length addresses) (address_bytes addresses ++ name) ≡ addresses
unfolding chunks
chunks_back [] name are = refl
chunks_back (a ∷ addresses) name are =
    ap (λ (x : ℕ). x ∷ chunks (length addresses) (address_bytes addresses ++ name)) (be_again a are.0)
    ∙ ap (λ (l : List ℕ). a ∷ l) (chunks_back addresses name are.1)

behind : ℕ → List ℕ → List ℕ
behind zero bytes = bytes
behind (suc k) bytes = behind k (drop 16 bytes)

behind_back : (addresses name : List ℕ) → behind (length addresses) (address_bytes addresses ++ name) ≡ name
unfolding behind
behind_back [] name = refl
behind_back (a ∷ addresses) name = behind_back addresses name

-- ---- days

abbrev made_day : ℕ → ℕ → ℕ → Day
made_day year month day = record { year = year; month = month; day = day }

day_at : List ℕ → Day
day_at bytes = made_day (from_be_bytes w16 (take 2 bytes)) (get_or bytes 2 0) (get_or bytes 3 0)

day_back : (d : Day) (rest : List ℕ) → IsDay d → day_at (day_bytes d ++ rest) ≡ d
unfolding day_at
day_back d rest is =
    ap (λ (y : ℕ). made_day y d.month d.day)
    (from_be_bytes-to_be_bytes_2 d.year (let small = is.year in omega (arith, small)))

until_if : Bool → List ℕ → Option Day
until_if true bytes = None
until_if false bytes = Some (day_at bytes)

until_at : List ℕ → Option Day
until_at bytes = until_if (get_or bytes 2 0 == 0) bytes

a_month : (month : ℕ) → 1 ≤ month → (month == 0) ≡ false
a_month month some = grind (arith, nat_tests)

until_back : (u : Option Day) (rest : List ℕ) → IfSome u IsDay → until_at (until_bytes u ++ rest) ≡ u
unfolding until_at until_if
until_back None rest is = refl
until_back (Some d) rest is =
    ap (λ (b : Bool). until_if b (day_bytes d ++ rest)) (a_month d.month is.first_month)
    ∙ ap (λ (x : Day). Some x) (day_back d rest is)

until_front : (u : Option Day) (rest : List ℕ) → drop 4 (until_bytes u ++ rest) ≡ rest
until_front None rest = refl
until_front (Some d) rest = refl

-- ---- names

abbrev made_wanted : List ℕ → List ℕ → Option Day → Wanted
made_wanted name addresses until = record { name = name; addresses = addresses; until = until }

abbrev named_at : List ℕ → Option Day → Wanted
named_at rest until =
    made_wanted (behind (get_or rest 0 0) (drop 1 rest)) (chunks (get_or rest 0 0) (drop 1 rest)) until

wanted_at : List ℕ → Wanted
wanted_at rest = named_at (drop 4 rest) (until_at rest)

wanted_back : (w : Wanted) → IsWanted w → wanted_at (wanted_bytes w) ≡ w
unfolding wanted_at
wanted_back w is =
    let named = length w.addresses ∷ address_bytes w.addresses ++ w.name in
    ap (λ (x : List ℕ). named_at x (until_at (wanted_bytes w))) (until_front w.until named)
    ∙ ap (λ (u : Option Day). named_at named u) (until_back w.until named is.until)
    ∙ ap (λ (x : List ℕ). made_wanted x (chunks (length w.addresses) (address_bytes w.addresses ++ w.name))
    w.until) (behind_back w.addresses w.name)
    ∙ ap (λ (x : List ℕ). made_wanted w.name x w.until) (chunks_back w.addresses w.name is.addresses)

-- ---- any note

denial_at : ℕ → Denial
denial_at byte = if byte == 0 then Taken else (if byte == 1 then Full else Retired)

denial_back : (d : Denial) → denial_at (denial_byte d) ≡ d
unfolding denial_at
denial_back Taken = refl
denial_back Full = refl
denial_back Retired = refl

abbrev made_marked : Handling → ℕ → ℕ → ℕ → MarkedLetter
made_marked handling id parts seconds =
    record { mark = record { id = id; parts = parts }; handling = handling; seconds = seconds }

marked_at : Handling → List ℕ → MarkedLetter
marked_at handling rest =
    made_marked handling (from_be_bytes w64 (take 8 rest)) (get_or rest 8 0) (from_be_bytes w64 (drop 9 rest))

abbrev made_box : ℕ → ℕ → ℕ → OwnBox
made_box number serial address = record { number = number; serial = serial; address = address }

abbrev made_denied : ℕ → Denial → DeniedAt
made_denied address denial = record { address = address; denial = denial }

abbrev made_reading : ℕ → ℕ → List ℕ → Reading
made_reading address seconds bytes = record { address = address; seconds = seconds; bytes = bytes }

earlier : ℕ → List ℕ → Noted
earlier tag rest =
    if tag == 60 then Owned (made_box (from_be_bytes w32 (take 4 rest)) (from_be_bytes w32 (take 4 (drop 4
    rest))) (from_be_bytes w128 (drop 8 rest))) else
    (if tag == 61 then Denied (made_denied (from_be_bytes w128 (drop 1 rest)) (denial_at (get_or rest 0
    0))) else
    Carried (made_reading (from_be_bytes w128 (take 16 (drop 8 rest))) (from_be_bytes w64 (take 8 rest)) (drop
    24 rest)))

asked : ℕ → List ℕ → Noted
asked tag rest =
    if tag == 54 then Asked (Register (from_be_bytes w128 rest)) else
    (if tag == 55 then Asked (Read (from_be_bytes w32 rest)) else
    (if tag == 56 then Asked (Retire (from_be_bytes w32 rest)) else
    (if tag == 57 then Time (from_be_bytes w64 rest) else
    (if tag == 58 then Heard rest else
    (if tag == 59 then GivenUp else earlier tag rest)))))

noted : ℕ → List ℕ → Noted
noted tag rest =
    if tag == 49 then Named (wanted_at rest) else
    (if tag == 50 then Closed (drop 4 rest) (day_at rest) else
    (if tag == 51 then Retiring rest else
    (if tag == 52 then Marked (marked_at Shown rest) else
    (if tag == 53 then Marked (marked_at Written rest) else asked tag rest))))

marked_back : (handling : Handling) (id parts seconds : ℕ) → id < 2 ^ 64 → seconds < 2 ^ 64
    → marked_at handling (to_be_bytes w64 id ++ (parts ∷ to_be_bytes w64 seconds))
    ≡ made_marked handling id parts seconds
unfolding marked_at
marked_back handling id parts seconds few less =
    ap (λ (x : ℕ). made_marked handling x parts (from_be_bytes w64 (to_be_bytes w64 seconds)))
    (from_be_bytes-to_be_bytes_8 id few)
    ∙ ap (λ (x : ℕ). made_marked handling id parts x) (from_be_bytes-to_be_bytes_8 seconds less)

by_handling : (handling : Handling) (id parts seconds : ℕ) → id < 2 ^ 64 → seconds < 2 ^ 64
    → noted (get_or (note_record (Marked (made_marked handling id parts seconds))) 0 0)
    (drop 1 (note_record (Marked (made_marked handling id parts seconds))))
    ≡ Marked (made_marked handling id parts seconds)
unfolding noted
by_handling Shown id parts seconds few less =
    ap (λ (m : MarkedLetter). Marked m) (marked_back Shown id parts seconds few less)
by_handling Written id parts seconds few less =
    ap (λ (m : MarkedLetter). Marked m) (marked_back Written id parts seconds few less)

back : (n : Noted) → IsNote n → noted (get_or (note_record n) 0 0) (drop 1 (note_record n)) ≡ n
unfolding noted asked earlier
back (Named w) is = ap (λ (x : Wanted). Named x) (wanted_back w is)
back (Closed name day) is = ap (λ (d : Day). Closed name d) (day_back day name is.1)
back (Retiring name) is = refl
back (Marked m) is = by_handling m.handling m.mark.id m.mark.parts m.seconds is.0 is.1
back (Asked (Register address)) is = ap (λ (x : ℕ). Asked (Register x)) (be_again address is)
back (Asked (Read own)) is = ap (λ (x : ℕ). Asked (Read x)) (from_be_bytes-to_be_bytes_4 own is)
back (Asked (Retire own)) is = ap (λ (x : ℕ). Asked (Retire x)) (from_be_bytes-to_be_bytes_4 own is)
back (Time seconds) is = ap (λ (x : ℕ). Time x) (from_be_bytes-to_be_bytes_8 seconds is)
back (Heard frame) is = refl
back GivenUp is = refl
back (Owned b) is =
    ap (λ (x : ℕ). Owned (made_box x (from_be_bytes w32 (to_be_bytes w32 b.serial)) (from_be_bytes w128
    (to_be_bytes w128 b.address)))) (from_be_bytes-to_be_bytes_4 b.number is.0)
    ∙ ap (λ (x : ℕ). Owned (made_box b.number x (from_be_bytes w128 (to_be_bytes w128 b.address))))
    (from_be_bytes-to_be_bytes_4 b.serial is.1)
    ∙ ap (λ (x : ℕ). Owned (made_box b.number b.serial x)) (be_again b.address is.2)
back (Denied d) is =
    ap (λ (x : ℕ). Denied (made_denied x (denial_at (denial_byte d.denial)))) (be_again d.address is)
    ∙ ap (λ (x : Denial). Denied (made_denied d.address x)) (denial_back d.denial)
back (Carried r) is =
    ap (λ (x : ℕ). Carried (made_reading x (from_be_bytes w64 (to_be_bytes w64 r.seconds)) r.bytes)) (be_again
    r.address is.1)
    ∙ ap (λ (x : ℕ). Carried (made_reading r.address x r.bytes)) (from_be_bytes-to_be_bytes_8 r.seconds is.0)

pub one_note : (a b : Noted) → IsNote a → IsNote b → note_record a ≡ note_record b → a ≡ b
one_note a b ia ib is =
    sym (back a ia) ∙ ap (λ (l : List ℕ). noted (get_or l 0 0) (drop 1 l)) is ∙ back b ib

-- memory for the note whose record it is is memory for the record
pub has_memory : (k : KeptLedger) (bytes : List ℕ) (note : Noted) → IsNote note → bytes ≡ note_record note
    → HasMemoryFor k note → HasMemory k bytes
has_memory k bytes note whole is has other whole_other is_other =
    subst (λ (n : Noted). HasMemoryFor k n) (one_note note other whole whole_other (sym is ∙ is_other)) has

-- ---- a record's size

pub note_sized : (n : Noted) → IsNote n → FitsRecord n → IsSized (note_record n)
note_sized (Named w) is fits = wanted_sized w is
  where
    until_size : (u : Option Day) (rest : List ℕ) → length (until_bytes u ++ rest) ≡ 4 + length rest
    until_size None rest = omega arith
    until_size (Some d) rest = omega arith

    wanted_sized : (w : Wanted) → IsWanted w → IsSized (49 ∷ wanted_bytes w)
    wanted_sized w is =
        let flat = flat_size w.addresses in
        let both = length-append (address_bytes w.addresses) w.name in
        let all = until_size w.until (length w.addresses ∷ address_bytes w.addresses ++ w.name) in
        let short = name_short w.name is.name in
        let few = is.few in (omega arith, omega (arith, flat, both, all, short, few))
note_sized (Closed name day) is fits =
    let short = name_short name is.0 in (omega arith, omega (arith, short))
note_sized (Retiring name) is fits = let short = name_short name is in (omega arith, omega (arith, short))
note_sized (Marked m) is fits = (omega arith, omega arith)
note_sized (Asked (Register address)) is fits = (omega arith, omega arith)
note_sized (Asked (Read own)) is fits = (omega arith, omega arith)
note_sized (Asked (Retire own)) is fits = (omega arith, omega arith)
note_sized (Time seconds) is fits = (omega arith, omega arith)
note_sized (Heard frame) is fits = (omega arith, omega (arith, fits))
note_sized GivenUp is fits = (omega arith, omega arith)
note_sized (Owned b) is fits = (omega arith, omega arith)
note_sized (Denied d) is fits = (omega arith, omega arith)
note_sized (Carried r) is fits = (omega arith, omega (arith, fits))
