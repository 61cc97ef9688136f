-- What stands where in a letter, and that bytes whose fields are a letter's spell it.
use Rattle.std.proofs.Common.{◌≡◌, ℕ, zero, suc, ◌+◌, ◌-◌, ◌<◌, ◌≤◌, ◌^◌, eqb, true, false, List, [], ◌∷◌, ◌++◌, length, get_or, take, drop, replicate, refl, ap, sym, subst, ◌∙◌, arith, append_assoc}
use Rattle.std.specs.Prelude.{All}
use Rattle.std.specs.Int.{w16, w64, to_be_bytes, from_be_bytes}
use Rattle.std.proofs.lemmas.Nat.{be_bytes_2, be_bytes_8, from_be_bytes-to_be_bytes_2, from_be_bytes-to_be_bytes_8}
use Rattle.std.proofs.lemmas.Bool.{true≢false, eqb-true, and_parts}
use Rattle.std.proofs.lemmas.List.{take_at, drop_at, length-append, length-replicate, length-take, length-drop, drop-drop, drop-take, take-take, take-append-drop}
use Rattle.std.proofs.lemmas.List.Elements.{All-tail, All-take, All-drop}
use Rattle.sha2.specs.Sha256.{sha256}
use Rattle.sha2.proofs.Facts256.{length-sha256}
use Rattle.file_carry.specs.Boxes.{is_zeros}
use Rattle.file_carry.specs.Parts.{filled}
use Rattle.desk_letters.specs.Letters.{room, front, digest_of, letter_of, length_in, id_in, Fits, Spells, IsNoLetter}
use Rattle.desk_letters.specs.Opening.{Empty, Letter, Met, AreZeros}
use Rattle.desk_letters.specs.Laws.{OneContent, SealedOpen}

length-digest : (id : ℕ) (text : List ℕ) → length (digest_of id text) ≡ 16
unfolding digest_of
length-digest id text =
    let m : List ℕ = front (length text) id ++ text in
    omega (arith, length-take 16 (sha256 m), length-sha256 m)

-- a letter but for its text
abbrev head_of : ℕ → List ℕ → List ℕ
head_of id text = front (length text) id ++ digest_of id text

length-head : (id : ℕ) (text : List ℕ) → length (head_of id text) ≡ 26
length-head id text =
    omega (arith, length-digest id text, length-append (front (length text) id) (digest_of id text))

length-filled : (n : ℕ) (text : List ℕ) → length text ≤ n → length (filled n text) ≡ n
length-filled n text h =
    omega (arith, length-append text (replicate (n - length text) 0), length-replicate {A = ℕ} (n - length text) 0)

pub length-letter : (width id : ℕ) (text : List ℕ) → Fits width id text → length (letter_of width id text) ≡ width
unfolding letter_of
length-letter width id text f =
    omega (
      arith,
      f.some,
      f.most,
      length-head id text,
      length-filled (room width) text f.most,
      length-append (head_of id text) (filled (room width) text),
    )

-- the fields of bytes that spell a letter
pub record Fields (id : ℕ) (text bytes : List ℕ) : Type 0 where
  pub used : length_in bytes ≡ length text
  pub id_is : id_in bytes ≡ id
  pub digest : drop 10 (take 26 bytes) ≡ digest_of id text
  pub text_is : take (length text) (drop 26 bytes) ≡ text
  pub rest : drop (length text) (drop 26 bytes) ≡ replicate (room (length bytes) - length text) 0

pub zeros_are : (n : ℕ) → is_zeros (replicate n 0) ≡ true
zeros_are zero = refl
zeros_are (suc n) = zeros_are n

module _ (width id : ℕ) (text : List ℕ) (f : Fits width id text) where
  back : drop 26 (letter_of width id text) ≡ filled (room width) text
  unfolding letter_of
  back = drop_at (head_of id text) (filled (room width) text) 26 (length-head id text)

  head : take 26 (letter_of width id text) ≡ head_of id text
  unfolding letter_of
  head = take_at (head_of id text) (filled (room width) text) 26 (length-head id text)

  used_read : length_in (letter_of width id text) ≡ length text
  unfolding letter_of
  used_read = from_be_bytes-to_be_bytes_2 (length text) (omega (arith, f.most, f.width_fits))

  id_read : id_in (letter_of width id text) ≡ id
  unfolding letter_of
  id_read = from_be_bytes-to_be_bytes_8 id f.id_fits

  text_read : take (length text) (drop 26 (letter_of width id text)) ≡ text
  text_read = ap (take (length text)) back ∙ take_at text (replicate (room width - length text) 0) (length text) refl

  rest_read : drop (length text) (drop 26 (letter_of width id text)) ≡ replicate (room width - length text) 0
  rest_read = ap (drop (length text)) back ∙ drop_at text (replicate (room width - length text) 0) (length text) refl

  digest_read : drop 10 (take 26 (letter_of width id text)) ≡ digest_of id text
  digest_read = ap (drop 10) head

-- what spells a letter has its fields
pub fields_of : (id : ℕ) (text bytes : List ℕ) → Spells id text bytes → Fields id text bytes
fields_of id text bytes s =
    let w : ℕ = length bytes in
    let f = s.fits in
    record {
      used = ap length_in s.is ∙ used_read w id text f;
      id_is = ap id_in s.is ∙ id_read w id text f;
      digest = ap (λ (b : List ℕ). drop 10 (take 26 b)) s.is ∙ digest_read w id text f;
      text_is = ap (λ (b : List ℕ). take (length text) (drop 26 b)) s.is ∙ text_read w id text f;
      rest = ap (λ (b : List ℕ). drop (length text) (drop 26 b)) s.is ∙ rest_read w id text f;
    }

-- the length in a box of zeros
none_used : (n : ℕ) → length_in (replicate n 0) ≡ 0
none_used zero = refl
none_used (suc zero) = refl
none_used (suc (suc n)) = refl

pub no_zeros : (id : ℕ) (text bytes : List ℕ) → Spells id text bytes → AreZeros bytes → ⊥
no_zeros id text bytes s zeros =
    let none : length_in bytes ≡ 0 = ap length_in zeros ∙ none_used (length bytes) in
    let used = (fields_of id text bytes s).used in
    let some = s.fits.some in
    omega (arith, none, used, some)

pub zeros_is : (bytes : List ℕ) → is_zeros bytes ≡ true → AreZeros bytes
zeros_is [] h = refl
zeros_is (b ∷ bytes) h =
    let p = and_parts (eqb b 0) (is_zeros bytes) h in
    ap (λ (n : ℕ). n ∷ bytes) (eqb-true b 0 p.0) ∙ ap (λ (t : List ℕ). 0 ∷ t) (zeros_is bytes p.1)

pub not_zeros : (bytes : List ℕ) → is_zeros bytes ≡ false → AreZeros bytes → ⊥
not_zeros bytes h zeros = true≢false (sym (zeros_are (length bytes)) ∙ sym (ap is_zeros zeros) ∙ h)

-- ---- bytes that spell a letter

abbrev pub IsBytes : List ℕ → Type 0
IsBytes bytes = All (λ b. b < 256) bytes

byte_at : (bytes : List ℕ) → IsBytes bytes → (i : ℕ) → get_or bytes i 0 < 256
byte_at [] h i = omega arith
byte_at (b ∷ bytes) h zero = h 0 0 (omega arith)
byte_at (b ∷ bytes) h (suc i) = byte_at bytes (All-tail (λ b. b < 256) b bytes h) i

field_byte : (n m : ℕ) (box : List ℕ) → IsBytes box → (i : ℕ) → get_or (take m (drop n box)) i 0 < 256
field_byte n m box h =
    byte_at (take m (drop n box)) (All-take (λ b. b < 256) m (drop n box) (All-drop (λ b. b < 256) n box h))

field_length : (n m : ℕ) (box : List ℕ) → n + m ≤ length box → length (take m (drop n box)) ≡ m
field_length n m box h = omega (arith, length-take m (drop n box), length-drop n box)

field_first : (n m : ℕ) (box : List ℕ) → take m (drop n box) ++ drop (n + m) box ≡ drop n box
field_first n m box =
    ap (λ (t : List ℕ). take m (drop n box) ++ t) (sym (drop-drop m n box)) ∙ take-append-drop m (drop n box)

-- the first 26 bytes are the three fields
front_is : (box : List ℕ) → IsBytes box → 26 ≤ length box
    → front (length_in box) (id_in box) ++ drop 10 (take 26 box) ≡ take 26 box
front_is box bytes len =
    let used : to_be_bytes w16 (length_in box) ≡ take 2 (drop 0 box) =
    be_bytes_2 (take 2 (drop 0 box)) (length_in box) (field_length 0 2 box (omega arith)) (field_byte 0 2 box bytes) refl in
    let id : to_be_bytes w64 (id_in box) ≡ take 8 (drop 2 box) =
    be_bytes_8 (take 8 (drop 2 box)) (id_in box) (field_length 2 8 box (omega arith)) (field_byte 2 8 box bytes) refl in
    let t : List ℕ = take 26 box in
    let first : take 2 (drop 0 box) ≡ take 2 (drop 0 t) = sym (take-take 2 26 box (omega arith)) in
    let then : take 8 (drop 2 box) ≡ take 8 (drop 2 t) =
    sym (ap (take 8) (drop-take 2 24 box) ∙ take-take 8 24 (drop 2 box) (omega arith)) in
    glued t (to_be_bytes w16 (length_in box)) (to_be_bytes w64 (id_in box)) (used ∙ first) (id ∙ then)
  where
    glued : (t a b : List ℕ) → a ≡ take 2 (drop 0 t) → b ≡ take 8 (drop 2 t) → (a ++ b) ++ drop 10 t ≡ t
    glued t a b p q =
        append_assoc a b (drop 10 t)
        ∙ ap (λ (x : List ℕ). a ++ x) (ap (λ (x : List ℕ). x ++ drop 10 t) q ∙ field_first 2 8 t)
        ∙ ap (λ (x : List ℕ). x ++ drop 2 t) p
        ∙ field_first 0 2 t

-- bytes with a length, an id, a text, its digest and zeros behind it are a letter
pub spelled : (id used : ℕ) (bytes : List ℕ) → IsBytes bytes → length bytes ≤ 4096 → 26 ≤ length bytes → id < 2 ^ 64
    → 1 ≤ used → used ≤ length bytes - 26 → used ≡ length_in bytes → id ≡ id_in bytes
    → is_zeros (drop used (drop 26 bytes)) ≡ true
    → drop 10 (take 26 bytes) ≡ digest_of id (take used (drop 26 bytes))
    → Spells id (take used (drop 26 bytes)) bytes
unfolding letter_of
spelled id used bytes are wide least id_fits some most used_is id_is zeros digest =
    let body : List ℕ = drop 26 bytes in
    let text : List ℕ = take used body in
    let len : length text ≡ used = omega (arith, length-take used body, length-drop 26 bytes) in
    let back : text ++ replicate (room (length bytes) - length text) 0 ≡ body =
    ap (λ n. text ++ replicate n 0) (let e : room (length bytes) - length text ≡ length (drop used body) = omega (arith, len, length-drop used body, length-drop 26 bytes) in e)
    ∙ ap (λ (t : List ℕ). text ++ t) (sym (zeros_is (drop used body) zeros))
    ∙ take-append-drop used body in
    let head : front (length text) id ++ digest_of id text ≡ take 26 bytes =
    ap (λ n. front n id ++ digest_of id text) (len ∙ used_is)
    ∙ ap (λ n. front (length_in bytes) n ++ digest_of id text) id_is
    ∙ ap (λ (t : List ℕ). front (length_in bytes) (id_in bytes) ++ t) (sym digest)
    ∙ front_is bytes are least in
    record {
      fits = record { width_fits = wide; id_fits = id_fits; some = omega (arith, len, some); most = omega (arith, len, most) };
      is = sym (ap (λ (t : List ℕ). (front (length text) id ++ digest_of id text) ++ t) back
          ∙ ap (λ (t : List ℕ). t ++ body) head
          ∙ take-append-drop 26 bytes);
    }

-- ---- bytes that spell none

-- the fields of the first 26 bytes are those of all
pub length_front : (bytes : List ℕ) → length_in (take 26 bytes) ≡ length_in bytes
length_front bytes = ap (from_be_bytes w16) (take-take 2 26 bytes (omega arith))

pub id_front : (bytes : List ℕ) → id_in (take 26 bytes) ≡ id_in bytes
id_front bytes =
    ap (from_be_bytes w64) (ap (take 8) (drop-take 2 24 bytes) ∙ take-take 8 24 (drop 2 bytes) (omega arith))

pub no_length : (used : ℕ) (bytes : List ℕ) → used ≡ length_in bytes
    → (1 ≤ used → used ≤ length bytes - 26 → ⊥) → IsNoLetter bytes
no_length used bytes is none id text s =
    let e = (fields_of id text bytes s).used in
    let some = s.fits.some in
    let most = s.fits.most in
    none (omega (arith, is, e, some)) (omega (arith, is, e, most))

pub no_rest : (used : ℕ) (bytes : List ℕ) → used ≡ length_in bytes
    → is_zeros (drop used (drop 26 bytes)) ≡ false → IsNoLetter bytes
no_rest used bytes is other id text s =
    let f = fields_of id text bytes s in
    true≢false (sym (zeros_are (room (length bytes) - length text)) ∙ sym (ap is_zeros f.rest)
    ∙ ap (λ n. is_zeros (drop n (drop 26 bytes))) (sym f.used ∙ sym is) ∙ other)

pub no_digest : (id used : ℕ) (bytes : List ℕ) → used ≡ length_in bytes → id ≡ id_in bytes
    → (drop 10 (take 26 bytes) ≡ digest_of id (take used (drop 26 bytes)) → ⊥) → IsNoLetter bytes
no_digest id used bytes is id_is other real text s =
    let f = fields_of real text bytes s in
    let text_is : text ≡ take used (drop 26 bytes) =
    sym f.text_is ∙ ap (λ n. take n (drop 26 bytes)) (sym f.used ∙ sym is) in
    other (f.digest ∙ ap (λ n. digest_of n text) (sym f.id_is ∙ sym id_is) ∙ ap (digest_of id) text_is)

-- ---- a letter that is written

-- what is written in front and behind makes the letter
pub written : (width id n : ℕ) (text head body digest : List ℕ) → n ≡ width - 26
    → digest ≡ digest_of id text → head ≡ front (length text) id ++ digest → body ≡ filled n text
    → head ++ body ≡ letter_of width id text
unfolding letter_of
written width id n text head body digest len digest_is head_is body_is =
    ap (λ (t : List ℕ). t ++ body) (head_is ∙ ap (λ (t : List ℕ). front (length text) id ++ t) digest_is)
    ∙ ap (λ (t : List ℕ). (front (length text) id ++ digest_of id text) ++ t) (body_is ∙ ap (λ k. filled k text) len)

-- ---- laws

pub sealed_open : SealedOpen
sealed_open width id text f =
    let w : length (letter_of width id text) ≡ width = length-letter width id text f in
    record {
      fits = subst (λ n. Fits n id text) (sym w) f;
      is = ap (λ n. letter_of n id text) (sym w);
    }

same_letter : (a b : ℕ) (s t bytes : List ℕ) → Spells a s bytes → Spells b t bytes → Letter a s ≡ Letter b t
same_letter a b s t bytes one two =
    let f = fields_of a s bytes one in
    let g = fields_of b t bytes two in
    let id : a ≡ b = sym f.id_is ∙ g.id_is in
    let len : length s ≡ length t = sym f.used ∙ g.used in
    let text : s ≡ t = sym f.text_is ∙ ap (λ n. take n (drop 26 bytes)) len ∙ g.text_is in
    ap (λ n. Letter n s) id ∙ ap (Letter b) text

pub one_content : OneContent
one_content Empty Empty bytes c d = refl
one_content Empty (Letter id text) bytes c d = absurd (no_zeros id text bytes d c)
one_content Empty Met bytes c d = absurd (d.0 c)
one_content (Letter id text) Empty bytes c d = absurd (no_zeros id text bytes c d)
one_content (Letter id text) (Letter other more) bytes c d = same_letter id other text more bytes c d
one_content (Letter id text) Met bytes c d = absurd (d.1 id text c)
one_content Met Empty bytes c d = absurd (c.0 d)
one_content Met (Letter id text) bytes c d = absurd (c.1 id text d)
one_content Met Met bytes c d = refl
