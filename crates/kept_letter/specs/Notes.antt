-- What a letter's journal notes, and the records of it. All numbers are big-endian.
use Rattle.std.specs.Prelude.{◌≡◌, ℕ, ◌<◌, ◌≤◌, ◌^◌, List, [], ◌∷◌, ◌++◌, length}
use Rattle.std.specs.Int.{w16, w32, w64, to_be_bytes}
use Rattle.kept_letter.specs.declared.note.LetterNote.{LetterNote}
use Rattle.kept_letter.specs.declared.note.LetterNote.TheVariants as note
use Rattle.kept_letter.specs.declared.note.Told.{Told as ToldOf}
use Rattle.kept_letter.specs.declared.note.Told.TheVariants as told
use Rattle.kept_letter.specs.declared.opening.LetterOpening.{LetterOpening}

-- ---- the opening

-- the letter's seed and id, how many bytes its text has, and the text of its card
pub record Opening : Type 0 where
  pub seed : List ℕ
  pub id : ℕ
  pub count : ℕ
  pub card : List ℕ

abbrev pub plain_opening : LetterOpening → Opening
plain_opening o = record { seed = o.seed; id = o.id.0; count = o.count; card = o.card.now }

-- the tag, the letter's id, its text's length, its seed, and the card's text
abbrev pub opening_record : Opening → List ℕ
opening_record o = 32 ∷ to_be_bytes w64 o.id ++ (to_be_bytes w32 o.count ++ (o.seed ++ o.card))

-- 32 bytes, numbers of 64 and 32 bits, and at most 4,096 bytes
pub record IsOpening (o : Opening) : Type 0 where
  pub seed : length o.seed ≡ 32
  pub id : o.id < 2 ^ 64
  pub count : o.count < 2 ^ 32
  pub card : length o.card ≤ 4096

-- ---- the notes behind it

-- Bytes of the text came; a try begins; the try was leased a lane's serial; the last proof goes out; a
-- server's frame was heard; it was told that the lane is not, or no longer, the try's.
pub data Noted : Type 0 where
  Text : (bytes : List ℕ) → Noted
  Begins : Noted
  Leased : (lane serial : ℕ) → Noted
  ProofGoes : Noted
  Heard : (frame : List ℕ) → Noted
  Told : ToldOf → Noted

abbrev pub plain_note : LetterNote → Noted
plain_note (note.Text bytes) = Text bytes.now
plain_note note.Begins = Begins
plain_note (note.Leased at) = Leased at.lane at.serial
plain_note note.ProofGoes = ProofGoes
plain_note (note.Heard frame) = Heard frame.now
plain_note (note.Told t) = Told t

abbrev pub told_number : ToldOf → ℕ
told_number told.NotYours = 0
told_number told.Written = 1
told_number told.NotWritten = 2

-- a tag for each kind, and behind it the bytes of the text; lane and serial; the frame; or what was told
abbrev pub note_record : Noted → List ℕ
note_record (Text bytes) = 33 ∷ bytes
note_record Begins = 34 ∷ []
note_record (Leased lane serial) = 35 ∷ to_be_bytes w16 lane ++ to_be_bytes w32 serial
note_record ProofGoes = 36 ∷ []
note_record (Heard frame) = 37 ∷ frame
note_record (Told t) = 38 ∷ told_number t ∷ []

-- a lane of 16 bits, and a serial of 32 that isn't 0
abbrev pub IsNote : Noted → Type 0
IsNote (Leased lane serial) = (lane < 2 ^ 16) × (1 ≤ serial) × (serial < 2 ^ 32)
IsNote note = Unit {0}

-- at most as many bytes as a record has behind its tag
abbrev pub FitsRecord : Noted → Type 0
FitsRecord (Text bytes) = length bytes ≤ 8213
FitsRecord (Heard frame) = length frame ≤ 8213
FitsRecord note = Unit {0}
