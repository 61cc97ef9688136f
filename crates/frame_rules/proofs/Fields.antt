-- Fields: what is read is what was written, and the other way round.
use Rattle.std.proofs.Common.{◌≡◌, ℕ, ◌+◌, ◌-◌, ◌^◌, ◌<◌, ◌≤◌, List, [], ◌∷◌, ◌++◌, length, take, drop, refl, sym, ap, subst, ◌∙◌, arith, inl, inr}
use Rattle.std.specs.Int.{w8, w16, w32, w64, w128, to_be_bytes, from_be_bytes}
use Rattle.std.proofs.lemmas.Bool.{cases_lt}
use Rattle.std.proofs.lemmas.List.{take_at, drop_at, take-append-drop, length-append, length-take, length-drop, get_or-drop, get_or-take, get_or_past}
use Rattle.std.proofs.lemmas.Nat.{be_bytes_2, be_bytes_4, be_bytes_8, from_be_bytes-to_be_bytes_2, from_be_bytes-to_be_bytes_4, from_be_bytes-to_be_bytes_8}
use Rattle.frame_rules.specs.Forms.{word_in}
use Rattle.express_words.specs.Ranges.{IsWord}
use Rattle.frame_rules.specs.Spelling.{word, address}
use Rattle.frame_rules.proofs.Digits.{IsBytes, le_back, le_again, le_below, be_back, be_again, be_below}

pub IsBytes-drop : (n : ℕ) (bytes : List ℕ) → IsBytes bytes → IsBytes (drop n bytes)
IsBytes-drop n bytes h i = rw get_or-drop (h (n + i))

pub IsBytes-take : (n : ℕ) (bytes : List ℕ) → IsBytes bytes → IsBytes (take n bytes)
IsBytes-take n bytes h i =
    elim (cases_lt i n) [
      | inl lt ↦ rw (get_or-take n bytes i 0 lt) (h i)
      | inr le ↦ rw (get_or_past (take n bytes) i 0 (omega (arith, length-take n bytes))) (omega arith)
    ]

-- a field that takes every value: how it is written and read, which lengths it has, and which values it has
pub record IsField {A : Type 0} (write : A → List ℕ) (read : List ℕ → A) (HasLength : ℕ → Type 0) (Fits : A → Type 0) : Type 0 where
  pub len : (x : A) → Fits x → HasLength (length (write x))
  pub back : (bytes : List ℕ) → IsBytes bytes → HasLength (length bytes) → write (read bytes) ≡ bytes
  pub fits : (bytes : List ℕ) → IsBytes bytes → HasLength (length bytes) → Fits (read bytes)
  pub again : (x : A) → Fits x → read (write x) ≡ x

abbrev pub Is : ℕ → ℕ → Type 0
Is count n = n ≡ count

-- ---- one field

pub u8_field : IsField (λ n. n ∷ []) (from_be_bytes w8) (Is 1) (λ n. n < 2 ^ 8)
u8_field = record {
  len = λ x h. refl;
  back = λ bytes h len. one bytes len;
  fits = λ bytes h len. omega (arith, h 0);
  again = λ x h. refl;
} where
  one : (bytes : List ℕ) → length bytes ≡ 1 → from_be_bytes w8 bytes ∷ [] ≡ bytes
  one [] len = absurd (omega arith)
  one (b ∷ []) len = refl
  one (b ∷ c ∷ bytes) len = absurd (omega arith)

pub u16_field : IsField (to_be_bytes w16) (from_be_bytes w16) (Is 2) (λ n. n < 2 ^ 16)
u16_field = record {
  len = λ x h. refl;
  back = λ bytes h len. be_bytes_2 bytes _ len h refl;
  fits = λ bytes h len. omega (arith, h 0, h 1);
  again = λ x h. from_be_bytes-to_be_bytes_2 x h;
}

pub u32_field : IsField (to_be_bytes w32) (from_be_bytes w32) (Is 4) (λ n. n < 2 ^ 32)
u32_field = record {
  len = λ x h. refl;
  back = λ bytes h len. be_bytes_4 bytes _ len h refl;
  fits = λ bytes h len. omega (arith, h 0, h 1, h 2, h 3);
  again = λ x h. from_be_bytes-to_be_bytes_4 x h;
}

pub u64_field : IsField (to_be_bytes w64) (from_be_bytes w64) (Is 8) (λ n. n < 2 ^ 64)
u64_field = record {
  len = λ x h. refl;
  back = λ bytes h len. be_bytes_8 bytes _ len h refl;
  fits = λ bytes h len. omega (arith, h 0, h 1, h 2, h 3, h 4, h 5, h 6, h 7);
  again = λ x h. from_be_bytes-to_be_bytes_8 x h;
}

pub address_field : IsField address (from_be_bytes w128) (Is 16) IsWord
unfolding address
address_field = record {
  len = λ x h. refl;
  back = λ bytes h len. be_back bytes len h;
  fits = λ bytes h len. be_below bytes len h;
  again = λ x h. be_again x h;
}

pub word_field : IsField word word_in (Is 16) IsWord
unfolding word word_in
word_field = record {
  len = λ x h. refl;
  back = λ bytes h len. le_back bytes len h;
  fits = λ bytes h len. le_below bytes len h;
  again = λ x h. le_again x h;
}

-- bytes as they are
pub raw_field : (HasLength : ℕ → Type 0) → IsField {A = List ℕ} (λ bytes. bytes) (λ bytes. bytes) HasLength (λ bytes. HasLength (length bytes))
raw_field HasLength = record { len = λ x h. h; back = λ bytes h len. refl; fits = λ bytes h len. len; again = λ x h. refl }

-- ---- a field of exactly n bytes, and one behind it

pub both : {A B : Type 0} (write : A → List ℕ) (read : List ℕ → A) (n : ℕ) (Fits : A → Type 0) (write' : B → List ℕ) (read' : List ℕ → B) (HasLength : ℕ → Type 0) (Fits' : B → Type 0) (Whole : ℕ → Type 0)
    → IsField write read (Is n) Fits → IsField write' read' HasLength Fits'
    → ((k : ℕ) → Whole k → (n ≤ k) × HasLength (k - n)) → ((k : ℕ) → HasLength k → Whole (n + k))
    → IsField (λ (p : A × B). write p.0 ++ write' p.1) (λ bytes. (read (take n bytes), read' (drop n bytes))) Whole (λ p. Fits p.0 × Fits' p.1)
both {A} {B} write read n Fits write' read' HasLength Fits' Whole first second parts whole = record {
  len = λ p h. subst Whole (sym (length-append (write p.0) (write' p.1) ∙ ap (λ k. k + length (write' p.1)) (first.len p.0 h.0))) (whole (length (write' p.1)) (second.len p.1 h.1));
  back = λ bytes h len.
      let cut = parts (length bytes) len in
      let front : length (take n bytes) ≡ n = omega (arith, cut.0, length-take n bytes) in
      let rest : HasLength (length (drop n bytes)) = subst HasLength (sym (length-drop n bytes)) cut.1 in
      ap (λ (t : List ℕ). t ++ write' (read' (drop n bytes))) (first.back (take n bytes) (IsBytes-take n bytes h) front)
      ∙ ap (λ (t : List ℕ). take n bytes ++ t) (second.back (drop n bytes) (IsBytes-drop n bytes h) rest) ∙ take-append-drop n bytes;
  fits = λ bytes h len.
      let cut = parts (length bytes) len in
      let front : length (take n bytes) ≡ n = omega (arith, cut.0, length-take n bytes) in
      let rest : HasLength (length (drop n bytes)) = subst HasLength (sym (length-drop n bytes)) cut.1 in
      (first.fits (take n bytes) (IsBytes-take n bytes h) front, second.fits (drop n bytes) (IsBytes-drop n bytes h) rest);
  again = λ p h.
      let front : take n (write p.0 ++ write' p.1) ≡ write p.0 = take_at (write p.0) (write' p.1) n (first.len p.0 h.0) in
      let rest : drop n (write p.0 ++ write' p.1) ≡ write' p.1 = drop_at (write p.0) (write' p.1) n (first.len p.0 h.0) in
      let left : read (take n (write p.0 ++ write' p.1)) ≡ p.0 = ap read front ∙ first.again p.0 h.0 in
      let right : read' (drop n (write p.0 ++ write' p.1)) ≡ p.1 = ap read' rest ∙ second.again p.1 h.1 in
      ap (λ x. (x, read' (drop n (write p.0 ++ write' p.1)))) left ∙ ap (λ y. (p.0, y)) right;
}

-- two fields of exact lengths
pub pair : {A B : Type 0} (write : A → List ℕ) (read : List ℕ → A) (n : ℕ) (Fits : A → Type 0) (write' : B → List ℕ) (read' : List ℕ → B) (m : ℕ) (Fits' : B → Type 0)
    → IsField write read (Is n) Fits → IsField write' read' (Is m) Fits'
    → IsField (λ (p : A × B). write p.0 ++ write' p.1) (λ bytes. (read (take n bytes), read' (drop n bytes))) (Is (n + m)) (λ p. Fits p.0 × Fits' p.1)
pair write read n Fits write' read' m Fits' first second = both write read n Fits write' read' (Is m) Fits' (Is (n + m)) first second (λ k h. (omega arith, omega arith)) (λ k h. omega arith)
