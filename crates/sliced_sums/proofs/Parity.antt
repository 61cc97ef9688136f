-- Sums over places, and the sum of bits that stand in words.
use Rattle.std.specs.Prelude.{◌≡◌, ℕ, ◌+◌, ◌*◌, ◌/◌, ◌%◌, ◌^◌, ◌<◌, List, slice_index, bit_xor, count_ones, refl}
use Rattle.std.proofs.Common.{zero, suc, sym, ◌∙◌, ap, arith}
use Rattle.std.specs.Int.{bit_at}
use Rattle.std.specs.Int.Bits.{xor_assoc, xor_zero_l}
use Rattle.std.proofs.Math.Nat.{pow-suc}
use lib.Count.{ones, ones_step}
use Rattle.std.proofs.lemmas.Nat.{xor_comm, xor_lt}
use Rattle.std.proofs.lemmas.Nat.Bits.{bit_at_lowest, bit_at-suc}
use Rattle.tower_numbers.proofs.Bounds.{half_pos}
use Rattle.sliced_sums.specs.Places.{bit_of, sum_over}
use Rattle.sliced_sums.proofs.Words.{bit_of_sum}
use Rattle.sliced_sums.proofs.Joined.{joined, joined_sum}

pub sum_ext : (n : ℕ) (f g : ℕ → ℕ) → ((j : ℕ) → j < n → f j ≡ g j) → sum_over n f ≡ sum_over n g
unfolding sum_over
sum_ext zero f g h = refl
sum_ext (suc n) f g h =
    ap (λ x. bit_xor x (sum_over n (λ j. f (suc j)))) (h 0 (omega arith))
    ∙ ap (bit_xor (g 0)) (sum_ext n (λ j. f (suc j)) (λ j. g (suc j)) (λ j i. h (suc j) (omega arith)))

pub sum_split : (m n : ℕ) (f : ℕ → ℕ) → sum_over (m + n) f ≡ bit_xor (sum_over m f) (sum_over n (λ j. f (m + j)))
unfolding sum_over
sum_split zero n f =
    let none : 0 + n ≡ n = omega arith in
    ap (λ k. sum_over k f) none
    ∙ sum_ext n f (λ j. f (0 + j)) (λ j h. ap f (omega arith))
    ∙ sym (xor_zero_l (sum_over n (λ j. f (0 + j))))
sum_split (suc m) n f =
    let more : suc m + n ≡ suc (m + n) = omega arith in
    let first = sum_over m (λ j. f (suc j)) in
    ap (λ k. sum_over k f) more
    ∙ ap (bit_xor (f 0)) (sum_split m n (λ j. f (suc j)))
    ∙ sym (xor_assoc (f 0) first (sum_over n (λ j. f (suc (m + j)))))
    ∙ ap (bit_xor (bit_xor (f 0) first)) (sum_ext n (λ j. f (suc (m + j))) (λ j. f (suc m + j)) (λ j h. ap f (omega arith)))

swapped : (a b c d : ℕ) → bit_xor (bit_xor a b) (bit_xor c d) ≡ bit_xor (bit_xor a c) (bit_xor b d)
swapped a b c d =
    xor_assoc a b (bit_xor c d)
    ∙ ap (bit_xor a) (sym (xor_assoc b c d) ∙ ap (λ t. bit_xor t d) (xor_comm b c) ∙ xor_assoc c b d)
    ∙ sym (xor_assoc a c (bit_xor b d))

pub sum_both : (n : ℕ) (f g : ℕ → ℕ) → sum_over n (λ j. bit_xor (f j) (g j)) ≡ bit_xor (sum_over n f) (sum_over n g)
unfolding sum_over
sum_both zero f g = sym (xor_zero_l 0)
sum_both (suc n) f g =
    ap (bit_xor (bit_xor (f 0) (g 0))) (sum_both n (λ j. f (suc j)) (λ j. g (suc j)))
    ∙ swapped (f 0) (g 0) (sum_over n (λ j. f (suc j))) (sum_over n (λ j. g (suc j)))

pub sum_below : (k n : ℕ) (f : ℕ → ℕ) → ((j : ℕ) → f j < 2 ^ (2 ^ k)) → sum_over n f < 2 ^ (2 ^ k)
unfolding sum_over
sum_below k zero f h = half_pos k
sum_below k (suc n) f h = xor_lt (2 ^ k) (f 0) (sum_over n (λ j. f (suc j))) (h 0) (sum_below k n (λ j. f (suc j)) (λ j. h (suc j)))

pub sum_joined : (k n : ℕ) (f g : ℕ → ℕ) → ((j : ℕ) → g j < 2 ^ (2 ^ k)) → sum_over n (λ j. joined k (f j) (g j)) ≡ joined k (sum_over n f) (sum_over n g)
unfolding sum_over
sum_joined k zero f g h = omega arith
sum_joined k (suc n) f g h =
    ap (bit_xor (joined k (f 0) (g 0))) (sum_joined k n (λ j. f (suc j)) (λ j. g (suc j)) (λ j. h (suc j)))
    ∙ joined_sum k (f 0) (g 0) (sum_over n (λ j. f (suc j))) (sum_over n (λ j. g (suc j))) (h 0) (sum_below k n (λ j. g (suc j)) (λ j. h (suc j)))

xor_of_bits : (a b : ℕ) → a < 2 → b < 2 → bit_xor a b ≡ (a + b) % 2
xor_of_bits zero zero h i = refl
xor_of_bits zero (suc zero) h i = refl
xor_of_bits (suc zero) zero h i = refl
xor_of_bits (suc zero) (suc zero) h i = refl
xor_of_bits (suc (suc a)) b h i = absurd (omega arith)
xor_of_bits a (suc (suc b)) h i = absurd (omega arith)

pub ones_parity : (n w : ℕ) → w < 2 ^ n → sum_over n (bit_at w) ≡ count_ones w % 2
unfolding sum_over ones
ones_parity zero w h = let none : 0 ≡ w = omega arith in ap (λ v. count_ones v % 2) none
ones_parity (suc n) w h =
    let double : 2 ^ suc n ≡ 2 ^ n * 2 = pow-suc 2 n in
    let step : count_ones w ≡ w % 2 + count_ones (w / 2) = ones_step w in
    ap (λ b. bit_xor b (sum_over n (λ j. bit_at w (suc j)))) (bit_at_lowest w)
    ∙ ap (bit_xor (w % 2)) (sum_ext n (λ j. bit_at w (suc j)) (bit_at (w / 2)) (λ j i. bit_at-suc w j) ∙ ones_parity n (w / 2) (omega arith))
    ∙ xor_of_bits (w % 2) (count_ones (w / 2) % 2) (omega arith) (omega arith)
    ∙ omega arith

word_at : (xs : List ℕ) (g : ℕ) → sum_over 64 (λ j. bit_of xs (64 * g + j)) ≡ sum_over 64 (bit_at (slice_index xs g))
word_at xs g = sum_ext 64 (λ j. bit_of xs (64 * g + j)) (bit_at (slice_index xs g)) (λ j h.
    let at : (64 * g + j) / 64 ≡ g = omega arith in
    let by : (64 * g + j) % 64 ≡ j = omega arith in
    ap (λ q. bit_at (slice_index xs q) ((64 * g + j) % 64)) at ∙ ap (bit_at (slice_index xs g)) by)

word_sum : (a b : ℕ) → sum_over 64 (bit_at (bit_xor a b)) ≡ bit_xor (sum_over 64 (bit_at a)) (sum_over 64 (bit_at b))
word_sum a b = sum_ext 64 (bit_at (bit_xor a b)) (λ j. bit_xor (bit_at a j) (bit_at b j)) (λ j h. bit_of_sum a b j) ∙ sum_both 64 (bit_at a) (bit_at b)

-- the sum of the bits at all places is the parity of the words' sum
pub words_parity : (xs : List ℕ) → let a = slice_index xs 0 in let b = slice_index xs 1 in let c = slice_index xs 2 in let d = slice_index xs 3 in
    a < 2 ^ 64 → b < 2 ^ 64 → c < 2 ^ 64 → d < 2 ^ 64 → sum_over 256 (bit_of xs) ≡ count_ones (bit_xor (bit_xor (bit_xor a b) c) d) % 2
words_parity xs ha hb hc hd =
    let a = slice_index xs 0 in
    let b = slice_index xs 1 in
    let c = slice_index xs 2 in
    let d = slice_index xs 3 in
    let f = bit_of xs in
    let one = sum_split 64 192 f in
    let two = sum_split 64 128 (λ j. f (64 + j)) in
    let three = sum_split 64 64 (λ j. f (64 + (64 + j))) in
    let at0 = sum_ext 64 f (λ j. f (64 * 0 + j)) (λ j h. ap f (omega arith)) ∙ word_at xs 0 in
    let at1 = sum_ext 64 (λ j. f (64 + j)) (λ j. f (64 * 1 + j)) (λ j h. ap f (omega arith)) ∙ word_at xs 1 in
    let at2 = sum_ext 64 (λ j. f (64 + (64 + j))) (λ j. f (64 * 2 + j)) (λ j h. ap f (omega arith)) ∙ word_at xs 2 in
    let at3 = sum_ext 64 (λ j. f (64 + (64 + (64 + j)))) (λ j. f (64 * 3 + j)) (λ j h. ap f (omega arith)) ∙ word_at xs 3 in
    let s = λ (w : ℕ). sum_over 64 (bit_at w) in
    let joined_words : s (bit_xor (bit_xor (bit_xor a b) c) d) ≡ bit_xor (bit_xor (bit_xor (s a) (s b)) (s c)) (s d) =
    word_sum (bit_xor (bit_xor a b) c) d ∙ ap (λ t. bit_xor t (s d)) (word_sum (bit_xor a b) c ∙ ap (λ t. bit_xor t (s c)) (word_sum a b)) in
    let split : sum_over 256 f ≡ bit_xor (s a) (bit_xor (s b) (bit_xor (s c) (s d))) =
    one ∙ ap (λ t. bit_xor t (sum_over 192 (λ j. f (64 + j)))) at0
    ∙ ap (bit_xor (s a)) (two ∙ ap (λ t. bit_xor t (sum_over 128 (λ j. f (64 + (64 + j))))) at1
    ∙ ap (bit_xor (s b)) (three ∙ ap (λ t. bit_xor t (sum_over 64 (λ j. f (64 + (64 + (64 + j)))))) at2 ∙ ap (bit_xor (s c)) at3)) in
    split
    ∙ sym (xor_assoc (s a) (s b) (bit_xor (s c) (s d)))
    ∙ sym (xor_assoc (bit_xor (s a) (s b)) (s c) (s d))
    ∙ sym joined_words
    ∙ ones_parity 64 (bit_xor (bit_xor (bit_xor a b) c) d) (xor_lt 64 _ _ (xor_lt 64 _ _ (xor_lt 64 _ _ ha hb) hc) hd)
