-- The fields of a line, as functions from its bytes: what each finds at the front, or that it isn't there.
use Rattle.std.specs.Prelude.{ℕ, ◌==◌, if◌then◌else◌, List, [], ◌∷◌}
use Rattle.std.specs.Prelude.{take, drop, Option, Some, None, option_map, Bool, true, false}
use Rattle.std.specs.Int.{w128, from_be_bytes}
use Rattle.std.specs.Result.{result_ok}
use Rattle.hex.specs.Hex.{decode_of, decode_sized}

-- one field, and then the next
infixl 10 ◌>>=◌
abbrev pub ◌>>=◌ : {A B : Type 0} → Option A → (A → Option B) → Option B
None >>= f = None
(Some x) >>= f = f x

-- what follows these characters
unfoldable pub after : List ℕ → List ℕ → Option (List ℕ)
after [] bytes = Some bytes
after (c ∷ cs) [] = None
after (c ∷ cs) (b ∷ bytes) = if b == c then after cs bytes else None

-- goes on where this is so
abbrev pub wanted : Bool → Option (Unit {0})
wanted true = Some tt
wanted false = None

-- nothing follows
abbrev pub end : List ℕ → Option (Unit {0})
end [] = Some tt
end (b ∷ bytes) = None

-- a field value or an address in 32 hexadecimal digits, a seed in 64
unfoldable pub spelled_word : List ℕ → Option ℕ
spelled_word digits = option_map (from_be_bytes w128) (result_ok (decode_sized digits 16))

unfoldable pub seed_of : List ℕ → Option (List ℕ)
seed_of digits = result_ok (decode_sized digits 32)

-- a field value or an address in front, and what follows it
unfoldable pub word_at : List ℕ → Option (ℕ × List ℕ)
word_at bytes = option_map (λ word. (word, drop 32 bytes)) (spelled_word (take 32 bytes))

-- any bytes, in twice as many hexadecimal digits
unfoldable pub any_bytes_of : List ℕ → Option (List ℕ)
any_bytes_of digits = result_ok (decode_of digits)

-- a message of a width, in twice as many hexadecimal digits
unfoldable pub message_of : ℕ → List ℕ → Option (List ℕ)
message_of width digits = result_ok (decode_sized digits width)
