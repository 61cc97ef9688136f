-- A record tells the note whose record it is.
use Rattle.std.proofs.Common.{◌≡◌, inl, inr, ℕ, ◌==◌, List, [], ◌∷◌, ◌++◌, map, take, drop, get_or, refl, sym, ◌∙◌, ap, arith}
use Rattle.std.specs.Prelude.{if◌then◌else◌}
use Rattle.std.proofs.lemmas.Nat.{from_be_bytes-to_be_bytes_4}
use Rattle.std.specs.Int.{w32, w128, to_be_bytes, from_be_bytes}
use Rattle.frame_rules.proofs.Digits.{be_again}
use Rattle.mailbox_rules.specs.Requests.{Register, Write, Read, Retire}
use Rattle.node_journal.specs.Records.{IsSized}
use Rattle.client_restart.specs.declared.opening.ClientOpening.{ClientOpening}
use Rattle.client_restart.specs.Notes.{Noted, Asked, Heard, Told, GivenUp, Owned, Remark, FitsRecord, IsNote, IsNoNote, note_record}
use Rattle.client_restart.specs.Openings.{IsClientOpening, opening_record}
use Rattle.client_restart.specs.Records.{AllNotes, IsForeign, records_of}

noted : ℕ → List ℕ → Noted
noted tag rest =
    if tag == 4 then Asked (Register (from_be_bytes w128 rest)) else
    (if tag == 5 then Asked (Write (from_be_bytes w128 (take 16 rest)) (drop 16 rest)) else
    (if tag == 6 then Asked (Read (from_be_bytes w32 rest)) else
    (if tag == 7 then Asked (Retire (from_be_bytes w32 rest)) else
    (if tag == 8 then Heard rest else
    (if tag == 9 then Told else
    (if tag == 10 then GivenUp else
    (if tag == 11 then Owned (from_be_bytes w32 (take 4 rest)) (from_be_bytes w32 (drop 4 rest)) else Remark rest)))))))

back : (n : Noted) → IsNote n → noted (get_or (note_record n) 0 0) (drop 1 (note_record n)) ≡ n
unfolding noted
back (Asked (Register address)) is = ap (λ (x : ℕ). Asked (Register x)) (be_again address is)
back (Asked (Write target message)) is = ap (λ (x : ℕ). Asked (Write x message)) (be_again target is)
back (Asked (Read own)) is = ap (λ (x : ℕ). Asked (Read x)) (from_be_bytes-to_be_bytes_4 own is)
back (Asked (Retire own)) is = ap (λ (x : ℕ). Asked (Retire x)) (from_be_bytes-to_be_bytes_4 own is)
back (Heard frame) is = refl
back Told is = refl
back GivenUp is = refl
back (Owned number serial) is =
    ap (λ (x : ℕ). Owned x (from_be_bytes w32 (to_be_bytes w32 serial))) (from_be_bytes-to_be_bytes_4 number is.0)
    ∙ ap (λ (x : ℕ). Owned number x) (from_be_bytes-to_be_bytes_4 serial is.1)
back (Remark words) is = refl

pub one_note : (a b : Noted) → IsNote a → IsNote b → note_record a ≡ note_record b → a ≡ b
one_note a b ia ib is =
    sym (back a ia) ∙ ap (λ (l : List ℕ). noted (get_or l 0 0) (drop 1 l)) is ∙ back b ib

-- ---- lists of notes

pub all_push : (notes : List Noted) (n : Noted) → AllNotes notes → IsNote n → AllNotes (notes ++ n ∷ [])
all_push [] n all one = (one, tt)
all_push (x ∷ notes) n all one = (all.0, all_push notes n all.1 one)

pub map_push : (notes : List Noted) (n : Noted) → map note_record (notes ++ n ∷ []) ≡ map note_record notes ++ note_record n ∷ []
map_push [] n = refl
map_push (x ∷ notes) n = ap (λ (l : List (List ℕ)). note_record x ∷ l) (map_push notes n)

pub records_push : (o : ClientOpening) (notes : List Noted) (n : Noted) → records_of o (notes ++ n ∷ []) ≡ records_of o notes ++ note_record n ∷ []
records_push o notes n = ap (λ (l : List (List ℕ)). opening_record o ∷ l) (map_push notes n)

pub one_list : (xs ys : List Noted) → AllNotes xs → AllNotes ys → map note_record xs ≡ map note_record ys → xs ≡ ys
one_list [] [] ax ay is = refl
one_list [] (y ∷ ys) ax ay is = absurd (cc)
one_list (x ∷ xs) [] ax ay is = absurd (cc)
one_list (x ∷ xs) (y ∷ ys) ax ay is =
    let heads : note_record x ≡ note_record y = cc in
    let tails : map note_record xs ≡ map note_record ys = cc in
    ap (λ (z : Noted). z ∷ xs) (one_note x y ax.0 ay.0 heads) ∙ ap (λ (l : List Noted). y ∷ l) (one_list xs ys ax.1 ay.1 tails)

-- no record among those of notes is foreign
no_foreign : (before notes : List Noted) (r : List ℕ) (rest : List (List ℕ)) → AllNotes notes → IsNoNote r → map note_record before ++ r ∷ rest ≡ map note_record notes → ⊥
no_foreign [] [] r rest all apart is = cc
no_foreign [] (x ∷ notes) r rest all apart is = let same : r ≡ note_record x = cc in apart x all.0 same
no_foreign (b ∷ before) [] r rest all apart is = cc
no_foreign (b ∷ before) (x ∷ notes) r rest all apart is =
    let tails : map note_record before ++ r ∷ rest ≡ map note_record notes = cc in
    no_foreign before notes r rest all.1 apart tails

pub never_foreign : (n : ℕ) (o : ClientOpening) (notes : List Noted) (records : List (List ℕ)) → IsClientOpening o → AllNotes notes → records ≡ records_of o notes → IsForeign n records → ⊥
never_foreign n o notes records is_opening all is (inl lacks) = lacks.1 o (map note_record notes) is_opening is
never_foreign n o notes records is_opening all is (inr f) =
    let both : opening_record f.opening ∷ (map note_record f.notes ++ f.foreign ∷ f.rest) ≡ opening_record o ∷ map note_record notes = sym f.split ∙ is in
    let tails : map note_record f.notes ++ f.foreign ∷ f.rest ≡ map note_record notes = cc in
    no_foreign f.notes notes f.foreign f.rest all f.no_note tails

-- ---- a record's size

pub note_sized : (n : Noted) → FitsRecord n → IsSized (note_record n)
note_sized (Asked (Register address)) fits = (omega arith, omega arith)
note_sized (Asked (Write target message)) fits = (omega arith, omega (arith, fits))
note_sized (Asked (Read own)) fits = (omega arith, omega arith)
note_sized (Asked (Retire own)) fits = (omega arith, omega arith)
note_sized (Heard frame) fits = (omega arith, omega (arith, fits))
note_sized Told fits = (omega arith, omega arith)
note_sized GivenUp fits = (omega arith, omega arith)
note_sized (Owned number serial) fits = (omega arith, omega arith)
note_sized (Remark words) fits = (omega arith, omega (arith, fits))
