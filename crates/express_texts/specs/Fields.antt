-- Lines of a word and a value, as functions from their bytes.
use Rattle.std.specs.Prelude.{ℕ, List, Option, Some}
use Rattle.express_texts.specs.LineFields.{◌>>=◌, after, end, seed_of, word_at}

-- a line of this word and a field value, or a key
unfoldable pub value_line : List ℕ → List ℕ → Option ℕ
value_line word line = do
  rest ← after word line
  value ← word_at rest
  _ ← end value.1
  Some value.0

unfoldable pub key_line : List ℕ → List ℕ → Option (List ℕ)
key_line word line = after word line >>= seed_of
