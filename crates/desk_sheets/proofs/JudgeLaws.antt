-- What is told of a text is what it says.
use Rattle.std.proofs.Common.{◌≡◌, ◌⊎◌, inl, inr, ℕ, ◌+◌, ◌==◌, ◌&&◌, nat_eq, Bool, true, false, cond, List, Result, Ok, Err, refl, sym, ap, subst, ◌∙◌, arith}
use Rattle.std.proofs.lemmas.Bool.{and_parts, eqb-true}
use Rattle.desk_texts.specs.Lines.{lines_in, from_first}
use Rattle.desk_sheets.specs.declared.fault.SheetFault.{SheetFault}
use Rattle.desk_sheets.specs.declared.fault.SheetFault.TheVariants as faults
use Rattle.desk_sheets.specs.declared.sheet.Card.{Card}
use Rattle.desk_sheets.specs.declared.sheet.Pair.{Pair}
use Rattle.desk_sheets.specs.declared.sheet.Sheet.{Sheet}
use Rattle.desk_sheets.specs.declared.sheet.Sheet.TheVariants as sheets
use Rattle.desk_sheets.specs.Earlier.{begins_earlier, first_place, fault_at}
use Rattle.desk_sheets.specs.Judging.{IsEarlier, IsBadAt, Judges, JudgesCard, JudgesPair}
use Rattle.desk_sheets.specs.Sheets.{sheet_of, told_by, sheet_in, as_card, as_pair, card_in, pair_in, Tells}
use Rattle.desk_sheets.specs.Spelling.{SpellsSheet, IsFirstBadLine}
use Rattle.desk_sheets.proofs.SheetLaws.{is_found, is_only, is_bad, is_bad_only}

-- ---- which fault it is

-- the test of an earlier version
abbrev is_told_earlier : List (List ℕ) → ℕ → Bool
is_told_earlier lines n = (n == first_place lines) && begins_earlier (from_first lines)

abbrev fault_by : Bool → ℕ → SheetFault
fault_by t n = cond t faults.Earlier (faults.Wrong n)

fault_is : (lines : List (List ℕ)) (n : ℕ) → fault_at lines n ≡ fault_by (is_told_earlier lines n) n
unfolding fault_at
fault_is lines n = refl

fault_earlier : (t : Bool) (n : ℕ) → fault_by t n ≡ faults.Earlier → t ≡ true
fault_earlier true n h = refl
fault_earlier false n h = cc

fault_wrong : (t : Bool) (n m : ℕ) → fault_by t n ≡ faults.Wrong m → (t ≡ false) × (n ≡ m)
fault_wrong true n m h = cc
fault_wrong false n m h = (refl, cc)

never_other : (t : Bool) (n : ℕ) → fault_by t n ≡ faults.OtherKind → ⊥
never_other true n h = cc
never_other false n h = cc

told_earlier : (text : List ℕ) → IsEarlier text → is_told_earlier (lines_in text) (first_place (lines_in text)) ≡ true
told_earlier text is = rw (is.begins, same (first_place (lines_in text))) refl
  where
    same : (n : ℕ) → nat_eq n n ≡ true
    same n = grind arith

earlier_at : (text : List ℕ) (n : ℕ) → IsFirstBadLine n text → is_told_earlier (lines_in text) n ≡ true → IsEarlier text
earlier_at text n bad is =
    let parts = and_parts (n == first_place (lines_in text)) (begins_earlier (from_first (lines_in text))) is in
    record {
      bad = subst (λ (m : ℕ). IsFirstBadLine m text) (eqb-true n (first_place (lines_in text)) parts.0) bad;
      begins = parts.1;
    }

-- ---- of a text

-- what the line number of a text that isn't read is, and its fault
record Refused (text : List ℕ) (fault : SheetFault) : Type 0 where
  n : ℕ
  read : sheet_of (lines_in text) ≡ Err n
  fault_is : fault_by (is_told_earlier (lines_in text) n) n ≡ fault

refused : (text : List ℕ) (fault : SheetFault) → sheet_in (lines_in text) ≡ Err fault → Refused text fault
unfolding sheet_in
refused text fault h = at_read (sheet_of (lines_in text)) refl h
  where
    at_read : (r : Result Sheet ℕ) → sheet_of (lines_in text) ≡ r → told_by (lines_in text) r ≡ Err fault
        → Refused text fault
    at_read (Ok s) e k = cc
    at_read (Err n) e k =
        let same : fault_at (lines_in text) n ≡ fault = cc in
        record { n = n; read = e; fault_is = sym (fault_is (lines_in text) n) ∙ same }

read_ok : (text : List ℕ) (s : Sheet) → sheet_in (lines_in text) ≡ Ok s → sheet_of (lines_in text) ≡ Ok s
unfolding sheet_in
read_ok text s h = at_read (sheet_of (lines_in text)) h
  where
    at_read : (r : Result Sheet ℕ) → told_by (lines_in text) r ≡ Ok s → r ≡ Ok s
    at_read (Ok t) k = cc
    at_read (Err n) k = cc

pub told_found : (text : List ℕ) (s : Sheet) → sheet_in (lines_in text) ≡ Ok s → SpellsSheet s text
told_found text s h = is_found text s (read_ok text s h)

pub told_only : (text : List ℕ) (s : Sheet) → SpellsSheet s text → sheet_in (lines_in text) ≡ Ok s
unfolding sheet_in
told_only text s h = ap (told_by (lines_in text)) (is_only text s h)

told_at : (text : List ℕ) (n : ℕ) → IsFirstBadLine n text
    → sheet_in (lines_in text) ≡ Err (fault_by (is_told_earlier (lines_in text) n) n)
unfolding sheet_in
told_at text n h =
    ap (told_by (lines_in text)) (is_bad_only text n h) ∙ ap Err (fault_is (lines_in text) n)

pub told_of_earlier : (text : List ℕ) → sheet_in (lines_in text) ≡ Err faults.Earlier → IsEarlier text
told_of_earlier text h =
    let r = refused text faults.Earlier h in
    earlier_at text r.n (is_bad text r.n r.read) (fault_earlier (is_told_earlier (lines_in text) r.n) r.n r.fault_is)

pub told_earlier_only : (text : List ℕ) → IsEarlier text → sheet_in (lines_in text) ≡ Err faults.Earlier
told_earlier_only text is =
    let first : ℕ = first_place (lines_in text) in
    told_at text first is.bad ∙ ap (λ t. Err (fault_by t first)) (told_earlier text is)

pub told_bad : (text : List ℕ) (n : ℕ) → sheet_in (lines_in text) ≡ Err (faults.Wrong n) → IsBadAt n text
told_bad text n h =
    let r = refused text (faults.Wrong n) h in
    let w = fault_wrong (is_told_earlier (lines_in text) r.n) r.n n r.fault_is in
    record {
      bad = subst (λ (m : ℕ). IsFirstBadLine m text) w.1 (is_bad text r.n r.read);
      now = λ is. let other = told_earlier_only text is in cc;
    }

pub told_bad_only : (text : List ℕ) (n : ℕ) → IsBadAt n text → sheet_in (lines_in text) ≡ Err (faults.Wrong n)
told_bad_only text n is = at_test (is_told_earlier (lines_in text) n) refl (told_at text n is.bad)
  where
    at_test : (t : Bool) → is_told_earlier (lines_in text) n ≡ t
        → sheet_in (lines_in text) ≡ Err (fault_by t n) → sheet_in (lines_in text) ≡ Err (faults.Wrong n)
    at_test true e k = absurd (is.now (earlier_at text n is.bad e))
    at_test false e k = k

told_no_other : (text : List ℕ) → sheet_in (lines_in text) ≡ Err faults.OtherKind → ⊥
told_no_other text h =
    let r = refused text faults.OtherKind h in never_other (is_told_earlier (lines_in text) r.n) r.n r.fault_is

-- ---- what is answered

pub judged : (text : List ℕ) (r : Result Sheet SheetFault) → Tells r (sheet_in (lines_in text)) → Judges text r
judged text (Ok s) h = told_found text s h
judged text (Err faults.Earlier) h = told_of_earlier text h
judged text (Err (faults.Wrong n)) h = told_bad text n h
judged text (Err faults.OtherKind) h = told_no_other text h
judged text (Err faults.NoMemory) h = tt

-- of a card

card_ok : (s : Result Sheet SheetFault) (card : Card) → as_card s ≡ Ok card → s ≡ Ok (sheets.Card card)
card_ok (Ok (sheets.Card c)) card h = ap (λ (x : Result Card SheetFault). as_sheet x) h
  where
    as_sheet : Result Card SheetFault → Result Sheet SheetFault
    as_sheet (Ok c) = Ok (sheets.Card c)
    as_sheet (Err e) = Err e
card_ok (Ok (sheets.Pair p)) card h = cc
card_ok (Err e) card h = cc

card_err : (s : Result Sheet SheetFault) (fault : SheetFault) → as_card s ≡ Err fault
    → (s ≡ Err fault) ⊎ ((fault ≡ faults.OtherKind) × ((pair : Pair) × (s ≡ Ok (sheets.Pair pair))))
card_err (Ok (sheets.Card c)) fault h = cc
card_err (Ok (sheets.Pair p)) fault h = inr (cc, (p, refl))
card_err (Err e) fault h = inl cc

pub judged_card : (text : List ℕ) (r : Result Card SheetFault) → Tells r (card_in (lines_in text)) → JudgesCard text r
judged_card text (Ok card) h = told_found text (sheets.Card card) (card_ok (sheet_in (lines_in text)) card h)
judged_card text (Err faults.Earlier) h =
    elim (card_err (sheet_in (lines_in text)) faults.Earlier h) [
      | inl e ↦ told_of_earlier text e
      | inr other ↦ absurd (not_other other.0)
    ]
  where
    not_other : faults.Earlier ≡ faults.OtherKind → ⊥
    not_other e = cc
judged_card text (Err (faults.Wrong n)) h =
    elim (card_err (sheet_in (lines_in text)) (faults.Wrong n) h) [
      | inl e ↦ told_bad text n e
      | inr other ↦ absurd (not_other other.0)
    ]
  where
    not_other : faults.Wrong n ≡ faults.OtherKind → ⊥
    not_other e = cc
judged_card text (Err faults.OtherKind) h =
    elim (card_err (sheet_in (lines_in text)) faults.OtherKind h) [
      | inl e ↦ absurd (told_no_other text e)
      | inr other ↦ (other.1.0, told_found text (sheets.Pair other.1.0) other.1.1)
    ]
judged_card text (Err faults.NoMemory) h = tt

-- of a pair file

pair_ok : (s : Result Sheet SheetFault) (pair : Pair) → as_pair s ≡ Ok pair → s ≡ Ok (sheets.Pair pair)
pair_ok (Ok (sheets.Pair p)) pair h = ap (λ (x : Result Pair SheetFault). as_sheet x) h
  where
    as_sheet : Result Pair SheetFault → Result Sheet SheetFault
    as_sheet (Ok p) = Ok (sheets.Pair p)
    as_sheet (Err e) = Err e
pair_ok (Ok (sheets.Card c)) pair h = cc
pair_ok (Err e) pair h = cc

pair_err : (s : Result Sheet SheetFault) (fault : SheetFault) → as_pair s ≡ Err fault
    → (s ≡ Err fault) ⊎ ((fault ≡ faults.OtherKind) × ((card : Card) × (s ≡ Ok (sheets.Card card))))
pair_err (Ok (sheets.Pair p)) fault h = cc
pair_err (Ok (sheets.Card c)) fault h = inr (cc, (c, refl))
pair_err (Err e) fault h = inl cc

pub judged_pair : (text : List ℕ) (r : Result Pair SheetFault) → Tells r (pair_in (lines_in text)) → JudgesPair text r
judged_pair text (Ok pair) h = told_found text (sheets.Pair pair) (pair_ok (sheet_in (lines_in text)) pair h)
judged_pair text (Err faults.Earlier) h =
    elim (pair_err (sheet_in (lines_in text)) faults.Earlier h) [
      | inl e ↦ told_of_earlier text e
      | inr other ↦ absurd (not_other other.0)
    ]
  where
    not_other : faults.Earlier ≡ faults.OtherKind → ⊥
    not_other e = cc
judged_pair text (Err (faults.Wrong n)) h =
    elim (pair_err (sheet_in (lines_in text)) (faults.Wrong n) h) [
      | inl e ↦ told_bad text n e
      | inr other ↦ absurd (not_other other.0)
    ]
  where
    not_other : faults.Wrong n ≡ faults.OtherKind → ⊥
    not_other e = cc
judged_pair text (Err faults.OtherKind) h =
    elim (pair_err (sheet_in (lines_in text)) faults.OtherKind h) [
      | inl e ↦ absurd (told_no_other text e)
      | inr other ↦ (other.1.0, told_found text (sheets.Card other.1.0) other.1.1)
    ]
judged_pair text (Err faults.NoMemory) h = tt
