-- A record tells the note whose record it is.
use Rattle.std.proofs.Common.{◌≡◌, ℕ, ◌==◌, List, take, drop, get_or, refl, sym, ◌∙◌, ap}
use Rattle.std.proofs.Common.{subst}
use Rattle.std.specs.Prelude.{if◌then◌else◌}
use Rattle.std.proofs.lemmas.Nat.{from_be_bytes-to_be_bytes_2, from_be_bytes-to_be_bytes_4}
use Rattle.std.specs.Int.{w16, w32, to_be_bytes, from_be_bytes}
use Rattle.kept_letter.specs.declared.note.Told.{Told as ToldOf}
use Rattle.kept_letter.specs.declared.note.Told.TheVariants.{NotYours, Written, NotWritten}
use Rattle.kept_letter.specs.declared.machine.KeptLetter.{KeptLetter}
use Rattle.kept_letter.specs.Machines.{HasMemory, HasMemoryFor}
use Rattle.kept_letter.specs.Notes.{Noted, Text, Begins, Leased, ProofGoes, Heard, Told, IsNote, note_record}

told_by : ℕ → ToldOf
told_by n = if n == 0 then NotYours else (if n == 1 then Written else NotWritten)

noted : ℕ → List ℕ → Noted
noted tag rest =
    if tag == 33 then Text rest else
    (if tag == 34 then Begins else
    (if tag == 35 then Leased (from_be_bytes w16 (take 2 rest)) (from_be_bytes w32 (drop 2 rest)) else
    (if tag == 36 then ProofGoes else
    (if tag == 37 then Heard rest else Told (told_by (get_or rest 0 0))))))

back : (n : Noted) → IsNote n → noted (get_or (note_record n) 0 0) (drop 1 (note_record n)) ≡ n
unfolding noted told_by
back (Text bytes) is = refl
back Begins is = refl
back (Leased lane serial) is =
    ap (λ (x : ℕ). Leased x (from_be_bytes w32 (to_be_bytes w32 serial))) (from_be_bytes-to_be_bytes_2 lane
    is.0)
    ∙ ap (λ (x : ℕ). Leased lane x) (from_be_bytes-to_be_bytes_4 serial is.2)
back ProofGoes is = refl
back (Heard frame) is = refl
back (Told NotYours) is = refl
back (Told Written) is = refl
back (Told NotWritten) is = refl

pub one_note : (a b : Noted) → IsNote a → IsNote b → note_record a ≡ note_record b → a ≡ b
one_note a b ia ib is =
    sym (back a ia) ∙ ap (λ (l : List ℕ). noted (get_or l 0 0) (drop 1 l)) is ∙ back b ib

-- memory for the note whose record it is is memory for the record
pub has_memory : (k : KeptLetter) (bytes : List ℕ) (note : Noted) → IsNote note → bytes ≡ note_record note
    → HasMemoryFor k note → HasMemory k bytes
has_memory k bytes note whole is has other whole_other is_other =
    subst (λ (n : Noted). HasMemoryFor k n) (one_note note other whole whole_other (sym is ∙ is_other)) has
