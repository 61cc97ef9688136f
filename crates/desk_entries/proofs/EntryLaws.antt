-- A record tells the entry whose record it is.
use Rattle.std.proofs.Common.{◌≡◌, ℕ, zero, suc, ◌==◌, Bool, true, false, List, [], ◌∷◌, ◌++◌, Option, Some, None, length, map, take, drop, get_or, refl, sym, ◌∙◌, ap, subst, arith}
use Rattle.std.specs.Prelude.{IfSome, if◌then◌else◌}
use Rattle.std.specs.Int.{w16, w32, w64, w128, to_be_bytes, from_be_bytes}
use Rattle.std.specs.List.{flat_map}
use Rattle.std.proofs.lemmas.Nat.{from_be_bytes-to_be_bytes_2, from_be_bytes-to_be_bytes_4, from_be_bytes-to_be_bytes_8}
use Rattle.frame_rules.proofs.Digits.{be_again}
use Rattle.desk_texts.specs.Days.{IsDay}
use Rattle.desk_texts.specs.declared.day.Day.{Day}
use Rattle.desk_entries.specs.declared.entry.BoxAt.{BoxAt}
use Rattle.desk_entries.specs.declared.entry.ClosedName.{ClosedName}
use Rattle.desk_entries.specs.declared.entry.Denial.{Denial}
use Rattle.desk_entries.specs.declared.entry.Denial.TheVariants.{Taken, Full}
use Rattle.desk_entries.specs.declared.entry.Denied.{Denied}
use Rattle.desk_entries.specs.declared.entry.Entry.{Entry}
use Rattle.desk_entries.specs.declared.entry.Entry.TheVariants.{Pair, Named, Registered, Refused, Read, Retiring, Shown, Written, Closed}
use Rattle.desk_entries.specs.declared.entry.Held.{Held}
use Rattle.desk_entries.specs.declared.entry.Held.TheVariants.{Nothing, Letter, Met}
use Rattle.desk_entries.specs.declared.entry.NamedBoxes.{NamedBoxes}
use Rattle.desk_entries.specs.declared.entry.Reading.{Reading}
use Rattle.desk_entries.specs.Entries.{AreAddresses, IsFormed, IsHeld, IsNamed}
use Rattle.desk_entries.specs.Records.{AreEntries, IsEntry, content, day_record, denial_byte, entry_record, flag, held_record, named_record, named_tag, tag, until_record}

-- ---- addresses

chunks : ℕ → List ℕ → List ℕ
chunks zero bytes = []
chunks (suc k) bytes = from_be_bytes w128 (take 16 bytes) ∷ chunks k (drop 16 bytes)

chunks_back : (addresses name : List ℕ) → AreAddresses addresses → chunks (length addresses) (flat_map (to_be_bytes w128) addresses ++ name) ≡ addresses
unfolding chunks
chunks_back [] name are = refl
chunks_back (a ∷ addresses) name are =
    ap (λ (x : ℕ). x ∷ chunks (length addresses) (flat_map (to_be_bytes w128) addresses ++ name)) (be_again a are.0)
    ∙ ap (λ (l : List ℕ). a ∷ l) (chunks_back addresses name are.1)

behind : ℕ → List ℕ → List ℕ
behind zero bytes = bytes
behind (suc k) bytes = behind k (drop 16 bytes)

behind_back : (addresses name : List ℕ) → behind (length addresses) (flat_map (to_be_bytes w128) addresses ++ name) ≡ name
unfolding behind
behind_back [] name = refl
behind_back (a ∷ addresses) name = behind_back addresses name

-- ---- what a box held

denial_at : ℕ → Denial
denial_at byte = if byte == 0 then Taken else Full

denial_back : (d : Denial) → denial_at (denial_byte d) ≡ d
unfolding denial_at
denial_back Taken = refl
denial_back Full = refl

flag_back : (b : Bool) → (flag b == 1) ≡ b
flag_back true = refl
flag_back false = refl

held_at : ℕ → List ℕ → Held
held_at byte rest =
    if byte == 0 then Nothing else
    (if byte == 1 then Letter (from_be_bytes w64 (take 8 rest)) (drop 8 rest) else Met)

held_back : (h : Held) → IsHeld h → held_at (get_or (held_record h) 0 0) (drop 1 (held_record h)) ≡ h
unfolding held_at
held_back Nothing is = refl
held_back (Letter id text) is = ap (λ (x : ℕ). Letter x text) (from_be_bytes-to_be_bytes_8 id is)
held_back Met is = refl

-- ---- days

abbrev made_day : ℕ → ℕ → ℕ → Day
made_day year month day = record { year = year; month = month; day = day }

day_at : List ℕ → Day
day_at bytes = made_day (from_be_bytes w16 (take 2 bytes)) (get_or bytes 2 0) (get_or bytes 3 0)

day_back : (d : Day) (rest : List ℕ) → IsDay d → day_at (day_record d ++ rest) ≡ d
unfolding day_at
day_back d rest is = ap (λ (y : ℕ). made_day y d.month d.day) (from_be_bytes-to_be_bytes_2 d.year (let small = is.year in omega (arith, small)))

-- ---- any entry

abbrev made_named : List ℕ → List ℕ → Option Day → NamedBoxes
made_named name addresses until = record { name = name; addresses = addresses; until = until }

abbrev made_closed : Day → List ℕ → ClosedName
made_closed day name = record { name = name; day = day }

-- boxes by their record, with this last day
abbrev named_at : List ℕ → Option Day → NamedBoxes
named_at rest until = made_named (behind (get_or rest 0 0) (drop 1 rest)) (chunks (get_or rest 0 0) (drop 1 rest)) until

named_back : (n : NamedBoxes) → IsNamed n → named_at (named_record n) n.until ≡ n
named_back n is =
    ap (λ (x : List ℕ). made_named x (chunks (length n.addresses) (flat_map (to_be_bytes w128) n.addresses ++ n.name)) n.until) (behind_back n.addresses n.name)
    ∙ ap (λ (x : List ℕ). made_named n.name x n.until) (chunks_back n.addresses n.name is.addresses)

abbrev made_box : ℕ → ℕ → BoxAt
made_box serial address = record { serial = serial; address = address }

abbrev made_denied : ℕ → ℕ → Denial → Denied
made_denied serial address denial = record { serial = serial; address = address; denial = denial }

abbrev made_reading : ℕ → ℕ → Bool → ℕ → Held → Reading
made_reading serial registered last seconds held =
    record { serial = serial; registered = registered; last = last; seconds = seconds; held = held }

entry_at : ℕ → List ℕ → Entry
entry_at tag rest =
    if tag == 1 then Pair rest else
    (if tag == 2 then Named (named_at rest None) else
    (if tag == 3 then Registered (made_box (from_be_bytes w32 (take 4 rest)) (from_be_bytes w128 (drop 4 rest))) else
    (if tag == 4 then Refused (made_denied (from_be_bytes w32 (take 4 (drop 1 rest))) (from_be_bytes w128 (drop 5 rest)) (denial_at (get_or rest 0 0))) else
    (if tag == 5 then Read (made_reading (from_be_bytes w32 (take 4 (drop 1 rest))) (from_be_bytes w32 (take 4 (drop 5 rest))) (get_or rest 0 0 == 1)
    (from_be_bytes w64 (take 8 (drop 9 rest))) (held_at (get_or (drop 17 rest) 0 0) (drop 18 rest))) else
    (if tag == 6 then Retiring rest else
    (if tag == 7 then Shown (from_be_bytes w32 rest) else
    (if tag == 8 then Written (from_be_bytes w32 rest) else
    (if tag == 9 then Closed (made_closed (day_at rest) (drop 4 rest)) else
    Named (named_at (drop 4 rest) (Some (day_at rest)))))))))))

-- boxes with a last day or without
dated_back : (n : NamedBoxes) (until : Option Day) → n.until ≡ until → IsNamed n
    → entry_at (named_tag until) (until_record until ++ named_record n) ≡ Named n
unfolding entry_at
dated_back n None u is = ap (λ (x : Option Day). Named (named_at (named_record n) x)) (sym u) ∙ ap (λ (x : NamedBoxes). Named x) (named_back n is)
dated_back n (Some d) u is =
    let day : IsDay d = subst (λ (x : Option Day). IfSome x IsDay) u is.until in
    ap (λ (x : Day). Named (named_at (named_record n) (Some x))) (day_back d (named_record n) day)
    ∙ ap (λ (x : Option Day). Named (named_at (named_record n) x)) (sym u) ∙ ap (λ (x : NamedBoxes). Named x) (named_back n is)

back : (e : Entry) → IsFormed e → entry_at (tag e) (content e) ≡ e
unfolding entry_at
back (Pair text) is = refl
back (Named n) is = dated_back n n.until refl is
back (Registered b) is =
    ap (λ (x : ℕ). Registered (made_box x (from_be_bytes w128 (to_be_bytes w128 b.address)))) (from_be_bytes-to_be_bytes_4 b.serial is.0)
    ∙ ap (λ (x : ℕ). Registered (made_box b.serial x)) (be_again b.address is.1)
back (Refused d) is =
    ap (λ (x : ℕ). Refused (made_denied x (from_be_bytes w128 (to_be_bytes w128 d.address)) (denial_at (denial_byte d.denial)))) (from_be_bytes-to_be_bytes_4 d.serial is.0)
    ∙ ap (λ (x : ℕ). Refused (made_denied d.serial x (denial_at (denial_byte d.denial)))) (be_again d.address is.1)
    ∙ ap (λ (x : Denial). Refused (made_denied d.serial d.address x)) (denial_back d.denial)
back (Read r) is =
    ap (λ (x : ℕ). Read (made_reading x (from_be_bytes w32 (to_be_bytes w32 r.registered)) (flag r.last == 1) (from_be_bytes w64 (to_be_bytes w64 r.seconds))
    (held_at (get_or (held_record r.held) 0 0) (drop 1 (held_record r.held))))) (from_be_bytes-to_be_bytes_4 r.serial is.serial)
    ∙ ap (λ (x : ℕ). Read (made_reading r.serial x (flag r.last == 1) (from_be_bytes w64 (to_be_bytes w64 r.seconds))
    (held_at (get_or (held_record r.held) 0 0) (drop 1 (held_record r.held))))) (from_be_bytes-to_be_bytes_4 r.registered is.registered)
    ∙ ap (λ (x : Bool). Read (made_reading r.serial r.registered x (from_be_bytes w64 (to_be_bytes w64 r.seconds))
    (held_at (get_or (held_record r.held) 0 0) (drop 1 (held_record r.held))))) (flag_back r.last)
    ∙ ap (λ (x : ℕ). Read (made_reading r.serial r.registered r.last x
    (held_at (get_or (held_record r.held) 0 0) (drop 1 (held_record r.held))))) (from_be_bytes-to_be_bytes_8 r.seconds is.seconds)
    ∙ ap (λ (x : Held). Read (made_reading r.serial r.registered r.last r.seconds x)) (held_back r.held is.held)
back (Retiring name) is = refl
back (Shown count) is = ap (λ (x : ℕ). Shown x) (from_be_bytes-to_be_bytes_4 count is)
back (Written count) is = ap (λ (x : ℕ). Written x) (from_be_bytes-to_be_bytes_4 count is)
back (Closed c) is = ap (λ (x : Day). Closed (made_closed x c.name)) (day_back c.day c.name is.day)

pub one_entry : (a b : Entry) → IsEntry a → IsEntry b → entry_record a ≡ entry_record b → a ≡ b
one_entry a b ia ib is = sym (back a ia.formed) ∙ ap (λ (l : List ℕ). entry_at (get_or l 0 0) (drop 1 l)) is ∙ back b ib.formed

pub one_list : (xs ys : List Entry) → AreEntries xs → AreEntries ys → map entry_record xs ≡ map entry_record ys → xs ≡ ys
one_list [] [] ax ay is = refl
one_list [] (y ∷ ys) ax ay is = absurd (cc)
one_list (x ∷ xs) [] ax ay is = absurd (cc)
one_list (x ∷ xs) (y ∷ ys) ax ay is =
    let heads : entry_record x ≡ entry_record y = cc in
    let tails : map entry_record xs ≡ map entry_record ys = cc in
    ap (λ (z : Entry). z ∷ xs) (one_entry x y ax.0 ay.0 heads) ∙ ap (λ (l : List Entry). y ∷ l) (one_list xs ys ax.1 ay.1 tails)

-- ---- one entry more

pub are_push : (entries : List Entry) (e : Entry) → AreEntries entries → IsEntry e → AreEntries (entries ++ e ∷ [])
are_push [] e are is = (is, tt)
are_push (x ∷ entries) e are is = (are.0, are_push entries e are.1 is)

pub records_push : (entries : List Entry) (e : Entry) → map entry_record (entries ++ e ∷ []) ≡ map entry_record entries ++ entry_record e ∷ []
records_push [] e = refl
records_push (x ∷ entries) e = ap (λ (l : List (List ℕ)). entry_record x ∷ l) (records_push entries e)
