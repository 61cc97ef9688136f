-- What opening a box tells, and why a text isn't sealed.
use Rattle.std.specs.Prelude.{◌≡◌, ℕ, ◌==◌, if◌then◌else◌, List, length, replicate}
use Rattle.desk_letters.specs.declared.fault.SealFault.{SealFault}
use Rattle.desk_letters.specs.declared.fault.SealFault.TheVariants.{NoText, TooLong}
use Rattle.desk_letters.specs.declared.letter.Opened.{Opened}
use Rattle.desk_letters.specs.declared.letter.Opened.TheVariants as opened
use Rattle.desk_letters.specs.Letters.{room, Spells, IsNoLetter}

-- what a box holds, as far as it can be read
pub data Content : Type 0 where
  Empty : Content
  Letter : (id : ℕ) → (text : List ℕ) → Content
  Met : Content

abbrev pub content : Opened → Content
content opened.Empty = Empty
content (opened.Letter id text) = Letter id text.now
content opened.Met = Met

abbrev pub AreZeros : List ℕ → Type 0
AreZeros bytes = bytes ≡ replicate (length bytes) 0

-- Nothing is in a box of zeros, one letter in one that spells it, and letters met in any other.
abbrev pub Opens : Content → List ℕ → Type 0
Opens Empty bytes = AreZeros bytes
Opens (Letter id text) bytes = Spells id text bytes
Opens Met bytes = (AreZeros bytes → ⊥) × IsNoLetter bytes

-- why a text that makes no letter doesn't
abbrev pub fault_of : ℕ → List ℕ → SealFault
fault_of width text = if length text == 0 then NoText else TooLong (room width)
