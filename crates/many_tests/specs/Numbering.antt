-- What a server of the tests reads of bytes.
use Rattle.std.specs.Prelude.{ℕ, zero, suc, ◌+◌, nat_le, nat_lt, nat_eq, Bool, true, false, if◌then◌else◌, List, [], ◌∷◌, length, take, Option, Some, None}
use Rattle.many_words.specs.declared.door.Door.{Door}
use Rattle.many_conns.specs.declared.said.Key.{Key}
use Rattle.many_conns.specs.Rules.{Outcome, Answers, Lasts, Waits, Commands, Replies}

-- the byte behind the length, or 0
abbrev pub first_byte : List ℕ → ℕ
first_byte (n ∷ first ∷ rest) = first
first_byte frame = 0

-- a frame is its length and so many bytes
abbrev pub whole : List ℕ → Option ℕ
whole [] = None
whole (n ∷ rest) = if nat_le n (length rest) then Some (1 + n) else None

abbrev pub is_long : List ℕ → Bool
is_long frame = nat_lt 100 (length frame)

abbrev pub key : ℕ → Key
key serial = record { lane = 1; serial = serial }

abbrev pub of_kind : (count kind serial : ℕ) → Outcome
of_kind count zero serial = Waits (key serial)
of_kind count (suc zero) serial = Replies (key serial) (count ∷ serial ∷ [])
of_kind count (suc (suc zero)) serial = Lasts (count ∷ serial ∷ [])
of_kind count (suc (suc (suc zero))) serial = Commands (Some (key serial)) (count ∷ serial ∷ [])
of_kind count (suc (suc (suc (suc kind)))) serial = Answers (count ∷ suc (suc (suc (suc kind))) ∷ [])

-- what becomes of a frame whose number is this
abbrev pub outcome : (count : ℕ) → List ℕ → Outcome
outcome count (n ∷ kind ∷ serial ∷ []) = of_kind count kind serial
outcome count frame = Answers (count ∷ first_byte frame ∷ [])

-- a frame whose first byte is 9 asks, and nothing is noted of it
abbrev pub noted_unless : Bool → List ℕ → Option (List ℕ)
noted_unless true frame = None
noted_unless false frame = Some (take 3 frame)

abbrev pub noted : List ℕ → Option (List ℕ)
noted frame = noted_unless (nat_eq (first_byte frame) 9) frame

-- one command is never answered
abbrev pub outstanding : List (List ℕ)
outstanding = (7 ∷ []) ∷ []
