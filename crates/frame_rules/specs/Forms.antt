-- Fields that are judged as they come, and forms of a body.
use Rattle.std.specs.Prelude.{◌≡◌, ℕ, ◌+◌, ◌-◌, ◌*◌, ◌%◌, Bool, ◌&&◌, List, [], ◌∷◌, length, take, drop}
use Rattle.std.specs.Prelude.{Option, Some, None, Result, Ok, Err, nat_lt, nat_le, ◌==◌, if◌then◌else◌}
use Rattle.std.specs.Int.{Width, w128, byte_len, from_be_bytes, from_le_bytes}
use Rattle.frame_rules.specs.declared.fault.FrameFault.{FrameFault}
use Rattle.frame_rules.specs.declared.fault.FrameFault.TheVariants.{Short, Malformed}

infixl 10 ◌>>=◌
abbrev pub ◌>>=◌ : {A B : Type 0} → Result A FrameFault → (A → Result B FrameFault) → Result B FrameFault
(Ok x) >>= f = f x
(Err e) >>= f = Err e

-- what a function answered, seen by view, is what reading gives
abbrev pub Gives : {X Y : Type 0} → (X → Y) → Result X FrameFault → Result Y FrameFault → Type 0
Gives view (Ok x) read = read ≡ Ok (view x)
Gives view (Err e) read = read ≡ Err e

-- a big-endian number at a place, once its bytes have come
unfoldable pub number_at : Width → ℕ → List ℕ → Result ℕ FrameFault
number_at w place bytes =
    if nat_lt (length bytes) (place + byte_len w) then Err Short
    else Ok (from_be_bytes w (take (byte_len w) (drop place bytes)))

-- the first byte, and those after it
abbrev pub first_of : List ℕ → Result (ℕ × List ℕ) FrameFault
first_of [] = Err Short
first_of (b ∷ rest) = Ok (b, rest)

-- a little-endian number of 16 bytes
unfoldable pub word_in : List ℕ → ℕ
word_in bytes = from_le_bytes w128 bytes

-- exactly so many bytes, or a base and so many times a message's width
pub data Size : Type 0 where
  Exactly : (count : ℕ) → Size
  Wide : (base copies : ℕ) → Size

abbrev pub has_size : Size → ℕ → Bool
has_size (Exactly count) n = n == count
has_size (Wide base copies) n =
    nat_le (base + 16 * copies) n && nat_le n (base + 4096 * copies) && (n - base) % (16 * copies) == 0

-- the left bytes that the length leaves: judged by what they are to hold, and whole
unfoldable pub sized : Size → ℕ → List ℕ → Result (List ℕ) FrameFault
sized size left rest =
    if has_size size left then (if nat_lt (length rest) left then Err Short else Ok (take left rest))
    else Err (Malformed 0)

-- one form of a body: how many bytes it has behind its tag, and what they mean
pub record Form (A : Type 0) : Type 0 where
  pub size : Size
  pub meaning : List ℕ → A

module _ {A : Type 0} where
  unfoldable pub filled : Form A → ℕ → List ℕ → Result A FrameFault
  filled form left rest = do
    bytes ← sized form.size left rest
    Ok (form.meaning bytes)

  abbrev pub form_of : ℕ → List (ℕ × Form A) → Option (Form A)
  form_of tag [] = None
  form_of tag (form ∷ forms) = if tag == form.0 then Some form.1 else form_of tag forms

  abbrev pub known : ℕ → Option (Form A) → Result (Form A) FrameFault
  known place None = Err (Malformed place)
  known place (Some form) = Ok form

  -- the form of a tag that stands at a place
  unfoldable pub chosen : ℕ → ℕ → List (ℕ × Form A) → Result (Form A) FrameFault
  chosen place tag forms = known place (form_of tag forms)

  -- a tag, and its form behind it
  unfoldable pub tagged : ℕ → List (ℕ × Form A) → ℕ → List ℕ → Result A FrameFault
  tagged place forms left rest = do
    tag ← first_of rest
    form ← chosen place tag.0 forms
    filled form (left - 1) tag.1

  -- ---- forms of one field

  abbrev pub nothing : A → Form A
  nothing x = record { size = Exactly 0; meaning = λ bytes. x }

  abbrev pub number : Width → (ℕ → A) → Form A
  number w make = record { size = Exactly (byte_len w); meaning = λ bytes. make (from_be_bytes w bytes) }

  abbrev pub word : (ℕ → A) → Form A
  word make = record { size = Exactly 16; meaning = λ bytes. make (word_in bytes) }

  abbrev pub key : (List ℕ → A) → Form A
  key make = record { size = Exactly 32; meaning = make }
