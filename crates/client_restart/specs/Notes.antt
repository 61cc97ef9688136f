-- What a client's journal notes behind its opening, and the records of it.
use Rattle.std.specs.Prelude.{◌≡◌, ℕ, ◌<◌, ◌≤◌, ◌^◌, List, [], ◌∷◌, ◌++◌, length, IsOk}
use Rattle.std.specs.Int.{w32, w128, to_be_bytes}
use Rattle.frame_rules.specs.Whole.{whole}
use Rattle.mailbox_rules.specs.Requests.{Request, Register, Write, Read, Retire}
use Rattle.client_core.specs.Requests.{plain_request}
use Rattle.client_core.specs.declared.request.Request.{Request as Given}
use Rattle.client_restart.specs.declared.note.Note.{Note}
use Rattle.client_restart.specs.declared.note.Note.TheVariants as note

-- A request was asked; a server's frame was heard; the oldest outcome that wasn't told yet was told; the
-- current request was given up; a box is owned that an earlier journal's serial registered; and words of the
-- program above, which mean nothing to the client.
pub data Noted : Type 0 where
  Asked : Request → Noted
  Heard : List ℕ → Noted
  Told : Noted
  GivenUp : Noted
  Owned : (number serial : ℕ) → Noted
  Remark : (words : List ℕ) → Noted

abbrev pub plain_note : Note → Noted
plain_note (note.Asked request) = Asked (plain_request request)
plain_note (note.Heard frame) = Heard frame.now
plain_note note.Told = Told
plain_note note.GivenUp = GivenUp
plain_note (note.Owned b) = Owned b.number b.serial
plain_note (note.Remark words) = Remark words.now

-- the note that a request was asked
abbrev pub asked_note : Given → Noted
asked_note request = Asked (plain_request request)

-- a tag for each kind, and behind it an address of 16 bytes, with the message of a write; the number of an
-- own box in four bytes; the frame; a box's number and serial in four bytes each; or the words
abbrev pub note_record : Noted → List ℕ
note_record (Asked (Register address)) = 4 ∷ to_be_bytes w128 address
note_record (Asked (Write target message)) = 5 ∷ to_be_bytes w128 target ++ message
note_record (Asked (Read own)) = 6 ∷ to_be_bytes w32 own
note_record (Asked (Retire own)) = 7 ∷ to_be_bytes w32 own
note_record (Heard frame) = 8 ∷ frame
note_record Told = 9 ∷ []
note_record GivenUp = 10 ∷ []
note_record (Owned number serial) = 11 ∷ to_be_bytes w32 number ++ to_be_bytes w32 serial
note_record (Remark words) = 12 ∷ words

-- how many bytes the record has
abbrev pub size_of : Noted → ℕ
size_of note = length (note_record note)

-- an address is one of 128 bits, a number of a box and a serial one of 32, and what is heard is exactly one
-- frame
abbrev pub IsNote : Noted → Type 0
IsNote (Asked (Register address)) = address < 2 ^ 128
IsNote (Asked (Write target message)) = target < 2 ^ 128
IsNote (Asked (Read own)) = own < 2 ^ 32
IsNote (Asked (Retire own)) = own < 2 ^ 32
IsNote (Heard frame) = IsOk (whole frame)
IsNote (Owned number serial) = (number < 2 ^ 32) × (serial < 2 ^ 32)
IsNote note = Unit {0}

-- the record is no note's
abbrev pub IsNoNote : List ℕ → Type 0
IsNoNote r = (n : Noted) → IsNote n → r ≡ note_record n → ⊥

-- a message of at most the greatest width, a frame of at most the longest, and as many words
abbrev pub FitsRecord : Noted → Type 0
FitsRecord (Asked (Write target message)) = length message ≤ 4096
FitsRecord (Heard frame) = length frame ≤ 8213
FitsRecord (Remark words) = length words ≤ 8213
FitsRecord note = Unit {0}
