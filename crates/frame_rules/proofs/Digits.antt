-- Numbers of 16 bytes, in either order.
use Rattle.std.proofs.Common.{◌≡◌, ℕ, zero, suc, ◌+◌, ◌-◌, ◌*◌, ◌/◌, ◌%◌, ◌^◌, ◌<◌, ◌≤◌, List, [], ◌∷◌, length, get_or, drop, refl, sym, ap, ◌∙◌, arith}
use Rattle.std.specs.Int.{w128, to_le_bytes, from_le_bytes, to_be_bytes, from_be_bytes, bytes_low_first, bytes_high_first, byte_at}
use Rattle.std.proofs.lemmas.List.{at_drop_more, at_drop_all, length-drop}
use Rattle.std.proofs.Math.Nat.{div-div-eq-div-mul, div-one, pow-suc, mul-le-mul_right}
use native.Mathlib.Nat.{mul-add-div_right, mul_comm, div-eq_of_lt}
use Rattle.std.proofs.Math.Arith.{mod-mul}

abbrev pub IsBytes : List ℕ → Type 0
IsBytes bytes = (i : ℕ) → get_or bytes i 0 < 256

pub IsBytes-rest : (b : ℕ) (bytes : List ℕ) → IsBytes (b ∷ bytes) → IsBytes bytes
IsBytes-rest b bytes h i = h (suc i)

-- ---- the lowest byte first

low : List ℕ → ℕ
low [] = 0
low (b ∷ bytes) = b + 256 * low bytes

low_bytes : ℕ → ℕ → List ℕ
low_bytes zero n = []
low_bytes (suc k) n = n % 256 ∷ low_bytes k (n / 256)

low-drop : (bs : List ℕ) (i : ℕ) → i < length bs → low (drop i bs) ≡ get_or bs i 0 + 256 * low (drop (i + 1) bs)
unfolding low
low-drop bs i h = at_drop_more low bs i 0 h

low-drop_all : (bs : List ℕ) (i : ℕ) → length bs ≤ i → low (drop i bs) ≡ 0
unfolding low
low-drop_all bs i h = at_drop_all low bs i h

from_le_bytes-is : (bs : List ℕ) → length bs ≡ 16 → from_le_bytes w128 bs ≡ low bs
from_le_bytes-is bs h = omega (
  arith,
  low-drop bs 0 (omega arith),
  low-drop bs 1 (omega arith),
  low-drop bs 2 (omega arith),
  low-drop bs 3 (omega arith),
  low-drop bs 4 (omega arith),
  low-drop bs 5 (omega arith),
  low-drop bs 6 (omega arith),
  low-drop bs 7 (omega arith),
  low-drop bs 8 (omega arith),
  low-drop bs 9 (omega arith),
  low-drop bs 10 (omega arith),
  low-drop bs 11 (omega arith),
  low-drop bs 12 (omega arith),
  low-drop bs 13 (omega arith),
  low-drop bs 14 (omega arith),
  low-drop bs 15 (omega arith),
  low-drop_all bs 16 (omega arith),
)

byte_at-is : (i n : ℕ) → byte_at i n ≡ n / 256 ^ i % 256
byte_at-is zero n = ap (λ x. x % 256) (sym (div-one n))
byte_at-is (suc i) n = refl

bytes_low_first-is : (k i n : ℕ) → bytes_low_first i k n ≡ low_bytes k (n / 256 ^ i)
unfolding low_bytes
bytes_low_first-is zero i n = refl
bytes_low_first-is (suc k) i n =
    let next : n / 256 ^ suc i ≡ n / 256 ^ i / 256 = ap (λ x. n / x) (pow-suc 256 i) ∙ sym (div-div-eq-div-mul n (256 ^ i) 256) in
    rw (byte_at-is i n, bytes_low_first-is k (suc i) n, next) refl

to_le_bytes-is : (n : ℕ) → to_le_bytes w128 n ≡ low_bytes 16 n
to_le_bytes-is n = bytes_low_first-is 16 0 n ∙ ap (low_bytes 16) (div-one n)

low_back : (bs : List ℕ) → IsBytes bs → low_bytes (length bs) (low bs) ≡ bs
unfolding low low_bytes
low_back [] h = refl
low_back (b ∷ bs) h =
    let small : b < 256 = h 0 in
    let first : (b + 256 * low bs) % 256 ≡ b = omega arith in
    let rest : (b + 256 * low bs) / 256 ≡ low bs = omega arith in
    rw (first, rest, low_back bs (IsBytes-rest b bs h)) refl

low_again : (k n : ℕ) → n < 256 ^ k → low (low_bytes k n) ≡ n
unfolding low low_bytes
low_again zero n h = omega arith
low_again (suc k) n h =
    let small : n / 256 < 256 ^ k = omega (arith, pow-suc 256 k) in
    rw (low_again k (n / 256) small) (omega arith)

low_below : (bs : List ℕ) → IsBytes bs → low bs < 256 ^ length bs
unfolding low
low_below [] h = omega arith
low_below (b ∷ bs) h =
    let small : b < 256 = h 0 in
    omega (arith, pow-suc 256 (length bs), low_below bs (IsBytes-rest b bs h))

pub le_back : (bs : List ℕ) → length bs ≡ 16 → IsBytes bs → to_le_bytes w128 (from_le_bytes w128 bs) ≡ bs
le_back bs len h = ap (to_le_bytes w128) (from_le_bytes-is bs len) ∙ to_le_bytes-is (low bs) ∙ ap (λ k. low_bytes k (low bs)) (sym len) ∙ low_back bs h

pub le_again : (n : ℕ) → n < 2 ^ 128 → from_le_bytes w128 (to_le_bytes w128 n) ≡ n
le_again n h = from_le_bytes-is (to_le_bytes w128 n) refl ∙ ap low (to_le_bytes-is n) ∙ low_again 16 n h

pub le_below : (bs : List ℕ) → length bs ≡ 16 → IsBytes bs → from_le_bytes w128 bs < 2 ^ 128
le_below bs len h = rw (from_le_bytes-is bs len) (let b : low bs < 256 ^ length bs = low_below bs h in rw len at b)

-- ---- the highest byte first

high : List ℕ → ℕ
high [] = 0
high (b ∷ bytes) = b * 256 ^ length bytes + high bytes

high-drop : (bs : List ℕ) (i : ℕ) → i < length bs → high (drop i bs) ≡ get_or bs i 0 * 256 ^ (length bs - (i + 1)) + high (drop (i + 1) bs)
unfolding high
high-drop bs i h = at_drop_more high bs i 0 h ∙ ap (λ n. get_or bs i 0 * 256 ^ n + high (drop (i + 1) bs)) (length-drop (i + 1) bs)

high-drop_all : (bs : List ℕ) (i : ℕ) → length bs ≤ i → high (drop i bs) ≡ 0
unfolding high
high-drop_all bs i h = at_drop_all high bs i h

-- the same where the length is known
high-at : (bs : List ℕ) (i k : ℕ) → length bs ≡ 16 → i < 16 → k ≡ 256 ^ (16 - (i + 1)) → high (drop i bs) ≡ get_or bs i 0 * k + high (drop (i + 1) bs)
high-at bs i k len h e = high-drop bs i (omega arith) ∙ ap (λ n. get_or bs i 0 * 256 ^ (n - (i + 1)) + high (drop (i + 1) bs)) len ∙ ap (λ n. get_or bs i 0 * n + high (drop (i + 1) bs)) (sym e)

from_be_bytes-is : (bs : List ℕ) → length bs ≡ 16 → from_be_bytes w128 bs ≡ high bs
from_be_bytes-is bs h = omega (
  arith,
  high-at bs 0 _ h (omega arith) refl,
  high-at bs 1 _ h (omega arith) refl,
  high-at bs 2 _ h (omega arith) refl,
  high-at bs 3 _ h (omega arith) refl,
  high-at bs 4 _ h (omega arith) refl,
  high-at bs 5 _ h (omega arith) refl,
  high-at bs 6 _ h (omega arith) refl,
  high-at bs 7 _ h (omega arith) refl,
  high-at bs 8 _ h (omega arith) refl,
  high-at bs 9 _ h (omega arith) refl,
  high-at bs 10 _ h (omega arith) refl,
  high-at bs 11 _ h (omega arith) refl,
  high-at bs 12 _ h (omega arith) refl,
  high-at bs 13 _ h (omega arith) refl,
  high-at bs 14 _ h (omega arith) refl,
  high-at bs 15 _ h (omega arith) refl,
  high-drop_all bs 16 (omega arith),
)

pos_pow : (n : ℕ) → 0 < 256 ^ n
pos_pow zero = omega arith
pos_pow (suc n) = rw (pow-suc 256 n) (omega (arith, pos_pow n))

div_small : (x y : ℕ) → x < y → x / y ≡ 0
div_small x y h = div-eq_of_lt h

high_below : (bs : List ℕ) → IsBytes bs → high bs < 256 ^ length bs
unfolding high
high_below [] h = omega arith
high_below (b ∷ bs) h =
    let small : b < 256 = h 0 in
    let most : b * 256 ^ length bs ≤ 255 * 256 ^ length bs = mul-le-mul_right (256 ^ length bs) (omega arith) in
    omega (arith, pow-suc 256 (length bs), high_below bs (IsBytes-rest b bs h))

-- whatever stands above the bytes
high_back : (bs : List ℕ) (more : ℕ) → IsBytes bs → bytes_high_first (length bs) (more * 256 ^ length bs + high bs) ≡ bs
unfolding high
high_back [] more h = refl
high_back (b ∷ bs) more h =
    let small : b < 256 = h 0 in
    let below : high bs < 256 ^ length bs = high_below bs (IsBytes-rest b bs h) in
    let grouped : more * 256 ^ suc (length bs) + (b * 256 ^ length bs + high bs) ≡ (more * 256 + b) * 256 ^ length bs + high bs = rw (pow-suc 256 (length bs)) (omega arith) in
    let top : ((more * 256 + b) * 256 ^ length bs + high bs) / 256 ^ length bs ≡ more * 256 + b
    = mul-add-div_right (pos_pow (length bs)) (more * 256 + b) (high bs) ∙ omega (arith, div_small (high bs) (256 ^ length bs) below) in
    let digit : (more * 256 + b) % 256 ≡ b = omega arith in
    rw (grouped, byte_at-is (length bs) ((more * 256 + b) * 256 ^ length bs + high bs), top, digit, high_back bs (more * 256 + b) (IsBytes-rest b bs h)) refl

length-bytes_high_first : (k n : ℕ) → length (bytes_high_first k n) ≡ k
length-bytes_high_first zero n = refl
length-bytes_high_first (suc k) n = ap suc (length-bytes_high_first k n)

high_again : (k n : ℕ) → high (bytes_high_first k n) ≡ n % 256 ^ k
unfolding high
high_again zero n = omega arith
high_again (suc k) n =
    let split : n % (256 * 256 ^ k) ≡ (n / 256 ^ k % 256) * 256 ^ k + n % 256 ^ k = mod-mul n {m = 256} {c = 256 ^ k} (omega arith) (pos_pow k) in
    rw (byte_at-is k n, high_again k n, length-bytes_high_first k n, pow-suc 256 k, mul_comm (256 ^ k) 256) (sym split)

pub be_back : (bs : List ℕ) → length bs ≡ 16 → IsBytes bs → to_be_bytes w128 (from_be_bytes w128 bs) ≡ bs
be_back bs len h = ap (to_be_bytes w128) (from_be_bytes-is bs len) ∙ ap (λ k. bytes_high_first k (high bs)) (sym len) ∙ ap (bytes_high_first (length bs)) nothing ∙ high_back bs 0 h where
  nothing : high bs ≡ 0 * 256 ^ length bs + high bs
  nothing = omega arith

pub be_again : (n : ℕ) → n < 2 ^ 128 → from_be_bytes w128 (to_be_bytes w128 n) ≡ n
be_again n h = from_be_bytes-is (to_be_bytes w128 n) refl ∙ high_again 16 n ∙ omega arith

pub be_below : (bs : List ℕ) → length bs ≡ 16 → IsBytes bs → from_be_bytes w128 bs < 2 ^ 128
be_below bs len h = rw (from_be_bytes-is bs len) (let b : high bs < 256 ^ length bs = high_below bs h in rw len at b)
