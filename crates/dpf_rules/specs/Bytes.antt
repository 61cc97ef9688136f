-- Numbers as lists of digits with the lowest first.
use Rattle.std.specs.Prelude.{ℕ, zero, suc, ◌+◌, ◌*◌, ◌/◌, ◌%◌, ◌^◌, ◌<◌, List, [], ◌∷◌, ◌++◌, All}

-- each number is a byte
abbrev pub AreBytes : List ℕ → Type 0
AreBytes xs = All (λ b. b < 256) xs

-- the number that digits spell in a base, the lowest digit first
unfoldable pub value_in : ℕ → List ℕ → ℕ
value_in base [] = 0
value_in base (d ∷ ds) = d + base * value_in base ds

-- the number that bytes spell, the lowest byte first
abbrev pub number_of : List ℕ → ℕ
number_of bytes = value_in 256 bytes

-- the n lowest bytes of a number, the lowest first
unfoldable pub bytes_of : ℕ → ℕ → List ℕ
bytes_of zero x = []
bytes_of (suc n) x = x % 256 ∷ bytes_of n (x / 256)

-- n numbers, each as 16 bytes
unfoldable pub words_bytes : (ℕ → ℕ) → ℕ → List ℕ
words_bytes word zero = []
words_bytes word (suc n) = words_bytes word n ++ bytes_of 16 (word n)

-- the number whose n lowest bits are these
unfoldable pub bits_number : (ℕ → ℕ) → ℕ → ℕ
bits_number bit zero = 0
bits_number bit (suc n) = bits_number bit n + bit n * 2 ^ n
