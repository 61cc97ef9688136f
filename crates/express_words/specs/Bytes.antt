-- The sum of two lists of bytes.
use Rattle.std.specs.Prelude.{ℕ, List, [], ◌∷◌, bit_xor}

-- byte by byte; the shorter list is taken to go on with zeros
unfoldable pub xor_bytes : List ℕ → List ℕ → List ℕ
xor_bytes [] ys = ys
xor_bytes (x ∷ xs) [] = x ∷ xs
xor_bytes (x ∷ xs) (y ∷ ys) = bit_xor x y ∷ xor_bytes xs ys
