-- The lines of a game, as functions from their bytes.
use Rattle.std.specs.Prelude.{ℕ, ◌%◌, ◌==◌, nat_lt, not, Bool, List, length, codes, Option, Some}
use Rattle.std.specs.List.{list_any}
use Rattle.express_texts.specs.declared.cloak.AimText.{AimText}
use Rattle.express_texts.specs.declared.cloak.GameHeader.{GameHeader}
use Rattle.express_texts.specs.LineFields.{◌>>=◌, after, word_at, seed_of, message_of, wanted}
use Rattle.express_texts.specs.Numbers.{number_at}
use Rattle.express_texts.specs.Fields.{value_line}

-- cloak 1 VIEWER WIDTH SEED
unfoldable pub game_header_of : List ℕ → Option GameHeader
game_header_of line = do
  rest ← after (codes "cloak 1 ") line
  viewer ← number_at 0 1 rest
  rest ← after (codes " ") viewer.1
  width ← number_at 16 4096 rest
  _ ← wanted (width.0 % 16 == 0)
  rest ← after (codes " ") width.1
  seed ← seed_of rest
  Some (record { viewer = viewer.0; width = width.0; seed = seed })

-- a word, ADDRESS and a space, and what follows
unfoldable pub target_at : List ℕ → List ℕ → Option (ℕ × List ℕ)
target_at word line = do
  rest ← after word line
  address ← word_at rest
  rest ← after (codes " ") address.1
  Some (address.0, rest)

-- a word, ADDRESS MESSAGE
unfoldable pub aim_of : List ℕ → ℕ → List ℕ → Option AimText
aim_of word width line = do
  target ← target_at word line
  message ← message_of width target.1
  Some (record { address = target.0; message = message })

abbrev pub is_among : ℕ → List ℕ → Bool
is_among address addresses = list_any (λ a. a == address) addresses

-- a game has at most so many addresses
unfoldable pub most_addresses : ℕ
most_addresses = 4096

-- address ADDRESS, behind the lines with these addresses
unfoldable pub address_behind : List ℕ → List ℕ → Option ℕ
address_behind before line = do
  _ ← wanted (nat_lt (length before) most_addresses)
  address ← value_line (codes "address ") line
  _ ← wanted (not (is_among address before))
  Some address
